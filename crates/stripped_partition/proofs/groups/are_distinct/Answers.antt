use Rattle.std.proofs.Common.{◌≤◌, ◌∙◌, ℕ, List, eqb, count_by, sym, subst}
use Rattle.std.proofs.lemmas.List.{take_all}
use Rattle.stripped_partition.proofs.Distinct.{differing_first, differing_more}
use Rattle.stripped_partition.proofs.groups.are_distinct.Goals as goal

pub loop-k-init : goal.loop-k-init
loop-k-init c = differing_first c.args.codes.now

pub loop-k-preserved : goal.loop-k-preserved
loop-k-preserved c = differing_more c.args.codes.now c.loop-k.k c.loop-k-test.true (sym c.has_code.ensures ∙ c.if-has_code.false) c.loop-k.invariant

pub returns : goal.returns
returns c e d = subst (λ (codes : List ℕ). count_by (λ x. eqb x d) codes ≤ 1) (take_all c.loop-k.k c.args.codes.now c.loop-k-test.false) (c.loop-k.invariant d)
