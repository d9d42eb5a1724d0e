use Rattle.std.proofs.Common.{◌∙◌, ◌+◌, ℕ, sym, ap, subst}
use Rattle.std.proofs.lemmas.Bool.{eqb-true}
use Rattle.std.proofs.lemmas.List.{take_all}
use Rattle.col_set.specs.ColSet.{IsSubset, has}
use Rattle.least_sets.proofs.Runs.{SeenSoFar, seen_none, seen_more, seen_low, seen_yes, seen_no, seen_all}
use Rattle.least_sets.proofs.scans.seen_in.Goals as goal

pub loop-w-init : goal.loop-w-init
loop-w-init g c = seen_none c.args.columns

pub loop-w-preserved : goal.loop-w-preserved
loop-w-preserved g c = seen_more c.args.sets.now c.args.columns c.loop-w.left c.loop-w.w-index c.w-item.result c.minus-left.result c.loop-w-test.true c.w-item.is c.minus-left.ensures c.loop-w.invariant

pub returns-then-eq-clause-seen : goal.returns-then-eq-clause-seen
returns-then-eq-clause-seen g c = seen_all c.args.sets.now c.args.columns c.minus-left.result (c.loop-w.w-index + 1)
    (seen_more c.args.sets.now c.args.columns c.loop-w.left c.loop-w.w-index c.w-item.result c.minus-left.result c.loop-w-test.true c.w-item.is c.minus-left.ensures c.loop-w.invariant)
    (eqb-true _ _ (sym c.eq.ensures ∙ c.if-eq.true) ∙ c.empty.ensures)

pub returns-clause-low : goal.returns-clause-low
returns-clause-low g c = subst (λ (v : ℕ). IsSubset v c.args.columns) (sym c.minus.ensures) (seen_low _ c.args.columns c.loop-w.left c.loop-w.invariant)

pub returns-clause-seen : goal.returns-clause-seen
returns-clause-seen g c = λ k h.
    let whole = subst (λ ws. SeenSoFar ws c.args.columns c.loop-w.left) (take_all c.loop-w.w-index c.args.sets.now c.loop-w-test.false) c.loop-w.invariant in
    seen_yes c.args.sets.now c.args.columns c.loop-w.left whole k (ap (λ (v : ℕ). has v k) (sym c.minus.ensures) ∙ h)

pub returns-clause-unseen : goal.returns-clause-unseen
returns-clause-unseen g c = λ k h n.
    let whole = subst (λ ws. SeenSoFar ws c.args.columns c.loop-w.left) (take_all c.loop-w.w-index c.args.sets.now c.loop-w-test.false) c.loop-w.invariant in
    seen_no c.args.sets.now c.args.columns c.loop-w.left whole k h (ap (λ (v : ℕ). has v k) (sym c.minus.ensures) ∙ n)
