use Rattle.std.proofs.Common.{◌≡◌, ◌++◌, map, take, drop}
use Rattle.row_log.proofs.Rows.{cut_at}
use Rattle.row_log.proofs.table.truncate_rows.Given as goal

abbrev pub invariant-loop-column : goal.invariant-loop-column
invariant-loop-column l = l.columns ≡ map (cut_at l.rows) (take l.column-index l.initial.columns) ++ drop l.column-index l.initial.columns
