use Rattle.std.proofs.Common.{◌≡◌, filter, take}
use Rattle.inclusion_merge.specs.Marks.{is_marked}
use Rattle.inclusion_merge.specs.Values.{is_chosen}
use Rattle.inclusion_merge.proofs.values.chosen_cells.Given as goal

abbrev pub invariant-loop-place : goal.invariant-loop-place
invariant-loop-place l = l.values.items ≡ filter (is_chosen (is_marked l.marks)) (take l.place l.column)
