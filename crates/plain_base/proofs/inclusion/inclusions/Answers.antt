use Rattle.std.proofs.Common.{◌∙◌, ◌++◌, ℕ, List, ap, sym, filter, length}
use Rattle.col_set.specs.ColSet.{upto}
use Rattle.rel_base.specs.Inclusion.{included}
use Rattle.plain_base.proofs.Included.{pairs_from, rows_more, inclusions-all}
use Rattle.plain_base.proofs.inclusion.inclusions.Goals as goal

pub loop-dependent-preserved : goal.loop-dependent-preserved
loop-dependent-preserved c =
    let columns = c.args.columns.now in
    let i = c.loop-dependent.dependent in
    c.in_ok-push_inclusions.ensures
    ∙ ap (λ (pairs : List (ℕ × ℕ)). pairs ++ filter (λ p. included columns p.0 p.1) (pairs_from i (upto (length columns)))) c.loop-dependent.invariant
    ∙ sym (rows_more (λ p. included columns p.0 p.1) (length columns) i)

pub returns : goal.returns
returns c = c.loop-dependent.invariant ∙ inclusions-all c.args.columns.now c.loop-dependent.dependent c.loop-dependent.auto.dependent-end c.loop-dependent-test.false
