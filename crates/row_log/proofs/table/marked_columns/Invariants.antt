use Rattle.std.proofs.Common.{◌≡◌, ◌<◌, ℕ, length}
use Rattle.row_log.specs.Live.{AreMarked, marked_at}
use Rattle.row_log.specs.Table.{column_at}
use Rattle.row_log.proofs.table.marked_columns.Given as goal

abbrev pub invariant-loop-column : goal.invariant-loop-column
invariant-loop-column l = (length l.marked.items ≡ l.column-index) × ((j : ℕ) → j < l.column-index → AreMarked (column_at l.columns j).cells l.flags (marked_at l.marked.items j))
