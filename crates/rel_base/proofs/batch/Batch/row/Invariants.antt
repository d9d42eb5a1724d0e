use Rattle.std.proofs.Common.{◌≡◌, map, take}
use Rattle.rel_base.specs.PackedOps.{cells_of, row_at}
use Rattle.rel_base.proofs.batch.Batch.row.Given as goal

abbrev pub invariant-loop-column : goal.invariant-loop-column
invariant-loop-column l = map (λ each. each.now) l.cells.items ≡ take l.column (row_at (cells_of l.self) l.row)
