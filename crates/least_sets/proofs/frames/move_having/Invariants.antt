use Rattle.std.proofs.lemmas.List.Filters.{FiltersInPlace}
use Rattle.col_set.specs.ColSet.{has}
use Rattle.least_sets.proofs.frames.move_having.Given as goal

abbrev pub invariant-loop-place : goal.invariant-loop-place
invariant-loop-place g l = FiltersInPlace (λ x. has x l.column) l.initial.sets l.sets l.kept l.place
