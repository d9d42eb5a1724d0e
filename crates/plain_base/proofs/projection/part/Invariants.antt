use Rattle.std.proofs.Common.{◌≡◌, map, filter}
use Rattle.col_set.specs.ColSet.{has, upto}
use Rattle.rel_base.specs.Cells.{cell}
use Rattle.plain_base.proofs.projection.part.Given as goal

abbrev pub invariant-loop-column : goal.invariant-loop-column
invariant-loop-column l = map (λ c. c.now) l.cells.items ≡ map (cell l.row) (filter (has l.columns) (upto l.column))
