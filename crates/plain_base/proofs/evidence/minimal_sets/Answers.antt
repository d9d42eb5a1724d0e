use Rattle.std.proofs.Common.{◌∙◌, ap, sym, subst, ℕ, BTreeSet, not, eqb, ◌&&◌}
use Rattle.std.specs.BTreeSet.{contains, IsOrdered}
use Rattle.std.specs.List.{list_any}
use Rattle.col_set.specs.ColSet.{report_cmp}
use Rattle.plain_base.proofs.Steps.{take_all, lone, kept_insert, kept_skip, keys_are_minimal}
use Rattle.plain_base.proofs.evidence.minimal_sets.Goals as goal
use Rattle.plain_base.proofs.evidence.minimal_sets.Goals.{then-not-has_smaller+in_ok-insert, else-not-has_smaller}

pub loop-x-preserved : goal.loop-x-preserved
loop-x-preserved c = elim c.if-not-has_smaller.branch [
  | then-not-has_smaller+in_ok-insert w ↦ (
    subst (IsOrdered report_cmp) (sym w.kept-is) w.in_ok-insert.ensures.ordered,
    λ q. ap (λ (s : BTreeSet ℕ). contains report_cmp s q) w.kept-is
        ∙ kept_insert c.args.sets.now c.loop-x.x-index q c.x-item.result c.loop-x-test.true c.x-item.is (ap not (sym w.if-not-has_smaller.ensures)) _ (c.loop-x.invariant.1 q) _ (w.in_ok-insert.ensures.updates.0 q),
  )
  | else-not-has_smaller w ↦ (
    subst (IsOrdered report_cmp) (sym w.kept-is) c.loop-x.invariant.0,
    λ q. ap (λ (s : BTreeSet ℕ). contains report_cmp s q) w.kept-is
        ∙ kept_skip c.args.sets.now c.loop-x.x-index q c.x-item.result c.loop-x-test.true c.x-item.is (ap not (sym w.if-not-has_smaller.ensures)) _ (c.loop-x.invariant.1 q),
  )
]

pub returns : goal.returns
returns c n below =
    keys_are_minimal c.loop-x.kept c.args.sets.now n c.loop-x.invariant.0
    (λ q. c.loop-x.invariant.1 q ∙ ap (list_any (λ y. eqb y q && lone c.args.sets.now y)) (take_all c.loop-x.x-index c.args.sets.now c.loop-x-test.false)) below
