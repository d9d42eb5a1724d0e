use Rattle.std.proofs.Common.{◌∙◌, not, sym, ap, arith}
use Rattle.std.proofs.lemmas.List.Filters.{FiltersInPlace-more_set, FiltersInPlace-more_no}
use Rattle.least_sets.proofs.frames.move_kept.Goals as goal
use Rattle.least_sets.proofs.frames.move_kept.Goals.{then-not-goes, else-not-goes}

pub loop-place-preserved : goal.loop-place-preserved
loop-place-preserved g c = elim c.if-not-goes.branch [
  | then-not-goes w ↦ rw (w.sets-is, w.kept-is) (FiltersInPlace-more_set c.loop-place.invariant (omega arith) (ap not (sym c.goes.ensures ∙ w.if-not-goes.true)) c.index-sets-place.is)
  | else-not-goes w ↦ rw (w.sets-is, w.kept-is) (FiltersInPlace-more_no c.loop-place.invariant (omega arith) (ap not (sym c.goes.ensures ∙ w.if-not-goes.false)) c.index-sets-place.is)
]
