use Rattle.std.proofs.Common.{◌∙◌, ℕ, sym, ap, subst}
use Rattle.std.proofs.lemmas.Bool.{eqb-true, false≢true}
use Rattle.std.proofs.lemmas.List.{take_all}
use Rattle.least_sets.proofs.Branches.{LackedSoFar, lacked_first, lacked_more}
use Rattle.col_set.specs.ColSet.{has}
use Rattle.col_set.specs.Members.{has-empty}
use Rattle.least_sets.proofs.scans.lacked_by_all.Goals as goal

pub loop-w-init : goal.loop-w-init
loop-w-init g c = lacked_first c.args.free

pub loop-w-preserved : goal.loop-w-preserved
loop-w-preserved g c = lacked_more c.args.pending.now c.args.free c.loop-w.lacked c.loop-w.w-index c.w-item.result c.minus-lacked.result c.loop-w-test.true c.w-item.is c.loop-w.invariant c.minus-lacked.ensures

pub returns-then-eq-clause-low : goal.returns-then-eq-clause-low
returns-then-eq-clause-low g c = record { each = λ k h. absurd (false≢true (sym (ap (λ (v : ℕ). has v k) (eqb-true _ _ (sym c.eq.ensures ∙ c.if-eq.true) ∙ c.empty.ensures) ∙ has-empty k) ∙ h)) }

pub returns-then-eq-clause-none : goal.returns-then-eq-clause-none
returns-then-eq-clause-none g c = λ k h. absurd (false≢true (sym (ap (λ (v : ℕ). has v k) (eqb-true _ _ (sym c.eq.ensures ∙ c.if-eq.true) ∙ c.empty.ensures) ∙ has-empty k) ∙ h))

pub returns-clause-low : goal.returns-clause-low
returns-clause-low g c = c.loop-w.invariant.low

pub returns-clause-none : goal.returns-clause-none
returns-clause-none g c = let all = subst (λ ws. LackedSoFar ws c.args.free c.loop-w.lacked) (take_all c.loop-w.w-index c.args.pending.now c.loop-w-test.false) c.loop-w.invariant in all.none
