use Rattle.std.proofs.Common.{if◌then◌else◌, ◌∙◌, ◌+◌, not, ℕ, sym, ap, subst}
use Rattle.std.specs.List.{filter}
use Rattle.std.proofs.lemmas.Bool.{eqb-true}
use Rattle.std.proofs.lemmas.List.{take_all}
use Rattle.col_set.specs.ColSet.{IsSubset, has}
use Rattle.least_sets.proofs.Runs.{SeenSoFar, seen_none, seen_where_more, seen_low, seen_yes, seen_no, seen_where_all}
use Rattle.least_sets.proofs.scans.seen_where.Goals as goal

pub loop-w-init : goal.loop-w-init
loop-w-init g c = seen_none c.args.columns

pub loop-w-preserved : goal.loop-w-preserved
loop-w-preserved g c = seen_where_more (λ w. if c.args.wanted then has w c.args.column else not (has w c.args.column)) c.args.sets.now c.args.columns c.loop-w.left c.loop-w.w-index c.w-item.result c.left_after-left.result c.loop-w-test.true c.w-item.is c.left_after-left.ensures c.loop-w.invariant

pub returns-then-eq-clause-seen : goal.returns-then-eq-clause-seen
returns-then-eq-clause-seen g c = seen_where_all (λ w. if c.args.wanted then has w c.args.column else not (has w c.args.column)) c.args.sets.now c.args.columns c.left_after-left.result (c.loop-w.w-index + 1)
    (seen_where_more (λ w. if c.args.wanted then has w c.args.column else not (has w c.args.column)) c.args.sets.now c.args.columns c.loop-w.left c.loop-w.w-index c.w-item.result c.left_after-left.result c.loop-w-test.true c.w-item.is c.left_after-left.ensures c.loop-w.invariant)
    (eqb-true _ _ (sym c.eq.ensures ∙ c.if-eq.true) ∙ c.empty.ensures)

pub returns-clause-low : goal.returns-clause-low
returns-clause-low g c = subst (λ (v : ℕ). IsSubset v c.args.columns) (sym c.minus.ensures) (seen_low _ c.args.columns c.loop-w.left c.loop-w.invariant)

pub returns-clause-seen : goal.returns-clause-seen
returns-clause-seen g c = λ k h.
    let whole = subst (λ ws. SeenSoFar (filter (λ w. if c.args.wanted then has w c.args.column else not (has w c.args.column)) ws) c.args.columns c.loop-w.left) (take_all c.loop-w.w-index c.args.sets.now c.loop-w-test.false) c.loop-w.invariant in
    seen_yes (filter (λ w. if c.args.wanted then has w c.args.column else not (has w c.args.column)) c.args.sets.now) c.args.columns c.loop-w.left whole k (ap (λ (v : ℕ). has v k) (sym c.minus.ensures) ∙ h)

pub returns-clause-unseen : goal.returns-clause-unseen
returns-clause-unseen g c = λ k h n.
    let whole = subst (λ ws. SeenSoFar (filter (λ w. if c.args.wanted then has w c.args.column else not (has w c.args.column)) ws) c.args.columns c.loop-w.left) (take_all c.loop-w.w-index c.args.sets.now c.loop-w-test.false) c.loop-w.invariant in
    seen_no (filter (λ w. if c.args.wanted then has w c.args.column else not (has w c.args.column)) c.args.sets.now) c.args.columns c.loop-w.left whole k h (ap (λ (v : ℕ). has v k) (sym c.minus.ensures) ∙ n)
