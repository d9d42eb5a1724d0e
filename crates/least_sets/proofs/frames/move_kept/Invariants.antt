use Rattle.std.proofs.Common.{◌&&◌, not}
use Rattle.std.specs.List.{list_any}
use Rattle.std.proofs.lemmas.List.Filters.{FiltersInPlace}
use Rattle.col_set.specs.ColSet.{has, inter, subset}
use Rattle.least_sets.proofs.frames.move_kept.Given as goal

abbrev pub invariant-loop-place : goal.invariant-loop-place
invariant-loop-place g l = FiltersInPlace (λ w. not (has w l.column && list_any (λ v. subset (inter w l.free) v) l.others)) l.initial.sets l.sets l.kept l.place
