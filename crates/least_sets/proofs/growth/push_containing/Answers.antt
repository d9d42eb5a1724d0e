use Rattle.std.proofs.Common.{◌∙◌, true, false, sym, ap, append-nil}
use Rattle.std.specs.List.{list_any}
use Rattle.col_set.specs.ColSet.{subset}
use Rattle.least_sets.proofs.Splitting.{kept_next}
use Rattle.least_sets.proofs.growth.push_containing.Goals as goal
use Rattle.least_sets.proofs.growth.push_containing.Goals.{then-has_subset+in_ok-push, else-has_subset}

pub loop-x-preserved : goal.loop-x-preserved
loop-x-preserved c = elim c.if-has_subset.branch [
  | then-has_subset+in_ok-push w ↦
      ap (λ v. v.items) w.changes-is ∙ w.in_ok-push.ensures.items
      ∙ kept_next (λ x. list_any (λ y. subset y x) c.args.found.now) c.args.sets.now c.loop-x.x-index c.x-item.result c.loop-x-test.true c.x-item.is c.args.changes.now.items c.loop-x.changes.items c.loop-x.invariant true (sym w.if-has_subset.ensures)
  | else-has_subset w ↦
      ap (λ v. v.items) w.changes-is ∙ sym (append-nil c.loop-x.changes.items)
      ∙ kept_next (λ x. list_any (λ y. subset y x) c.args.found.now) c.args.sets.now c.loop-x.x-index c.x-item.result c.loop-x-test.true c.x-item.is c.args.changes.now.items c.loop-x.changes.items c.loop-x.invariant false (sym w.if-has_subset.ensures)
]
