use Rattle.std.proofs.Common.{map}
use Rattle.row_log.proofs.Distinct.{AreCellsBelow}
use Rattle.row_log.proofs.column.Column.flagged_cells.Given as goal

abbrev pub invariant-loop-code : goal.invariant-loop-code
invariant-loop-code l = AreCellsBelow l.self-inside.dict l.used.items l.code (map (λ c. c.now) l.cells.items)
