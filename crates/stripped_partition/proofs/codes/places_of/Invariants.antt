use Rattle.std.proofs.Common.{◌≡◌, map, take, slice_index_or}
use Rattle.stripped_partition.proofs.codes.places_of.Given as goal

abbrev pub invariant-loop-row : goal.invariant-loop-row
invariant-loop-row l = l.places.items ≡ map (λ row. slice_index_or l.table row 4294967295) (take l.row-index l.rows)
