use Rattle.std.proofs.Common.{◌∙◌, sym, ap}
use Rattle.least_sets.proofs.Growing.{unblocked_more, unblocked_same}
use Rattle.least_sets.proofs.growth.push_grown.Goals as goal
use Rattle.least_sets.proofs.growth.push_grown.Goals.{then-not-has_subset+in_ok-push, else-not-has_subset}

pub loop-c-preserved : goal.loop-c-preserved
loop-c-preserved c = elim c.if-not-has_subset.branch [
  | then-not-has_subset+in_ok-push w ↦
      ap (λ m. m.items) w.grown-is ∙ w.in_ok-push.ensures.items
      ∙ unblocked_more c.args.blockers.now c.args.column c.args.inside.now c.loop-c.c-index c.c-item.result c.with-x.result c.loop-c-test.true c.c-item.is c.with-x.ensures (sym w.if-not-has_subset.ensures) c.args.grown.now.items c.loop-c.grown.items c.loop-c.invariant
  | else-not-has_subset w ↦
      ap (λ m. m.items) w.grown-is
      ∙ unblocked_same c.args.blockers.now c.args.column c.args.inside.now c.loop-c.c-index c.c-item.result c.with-x.result c.loop-c-test.true c.c-item.is c.with-x.ensures (sym w.if-not-has_subset.ensures) c.args.grown.now.items c.loop-c.grown.items c.loop-c.invariant
]
