use Rattle.std.proofs.Common.{take}
use Rattle.std.specs.List.{AllZip}
use Rattle.row_log.specs.Distinct.{AreDistinctCells}
use Rattle.profile_text.proofs.columns.distinct_each.Given as goal

abbrev pub invariant-loop-column : goal.invariant-loop-column
invariant-loop-column l = AllZip (AreDistinctCells l.rows) (take l.column-index l.columns) l.found.items
