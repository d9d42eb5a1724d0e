use Rattle.std.proofs.Common.{◌≡◌, ◌<◌, ◌≤◌, ℕ}
use Rattle.rel_base.specs.PackedOps.{cells_of, row_at}
use Rattle.row_log.specs.Table.{column_at, with_cell}
use Rattle.row_log.proofs.table.push_row.Given as goal

abbrev pub invariant-loop-place : goal.invariant-loop-place
invariant-loop-place l = ((j : ℕ) → j < l.place → column_at l.columns j ≡ with_cell (column_at l.initial.columns j) (row_at (cells_of l.fn.batch) l.fn.row) j)
    × ((j : ℕ) → l.place ≤ j → column_at l.columns j ≡ column_at l.initial.columns j)
