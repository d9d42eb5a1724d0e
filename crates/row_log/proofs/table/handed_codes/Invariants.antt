use Rattle.std.proofs.Common.{◌≡◌, ◌<◌, ℕ, [], length, get_or}
use Rattle.row_log.specs.Column.{AreCodes}
use Rattle.row_log.specs.Table.{column_at}
use Rattle.row_log.proofs.table.handed_codes.Given as goal

abbrev pub invariant-loop-column : goal.invariant-loop-column
invariant-loop-column l = (length l.codes.items ≡ l.column-index) × ((j : ℕ) → j < l.column-index → AreCodes (column_at l.columns j) (get_or l.codes.items j []))
