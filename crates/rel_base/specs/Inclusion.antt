-- Unary inclusion dependencies.
use Rattle.std.specs.Prelude.{◌≢◌, ◌<◌, ℕ, Bool, not, ◌&&◌, ◌||◌, ◌==◌, List, [], length, map, slice_index_or}
use Rattle.std.specs.List.{filter, flat_map, list_all, list_any, Contains}
use Rattle.col_set.specs.ColSet.{upto}
use Rattle.rel_base.specs.Cells.{Cell, cell}
use Rattle.rel_base.specs.Agreement.{same_cell}
use Rattle.rel_base.specs.RowState.{RowState, width, row}

-- the cells of the live rows in a column
abbrev pub column_cells : RowState → ℕ → List Cell
column_cells r k = map (λ number. cell (row r number) k) r.live

-- the columns of several relations, one relation after another
abbrev pub all_columns : List RowState → List (List Cell)
all_columns rs = flat_map (λ r. map (column_cells r) (upto (width r))) rs

-- each cell of the dependent column that is not NULL is a cell of the referenced one, which is another column.
-- A test for columns of the list: of others it says nothing that is meant, as the fact below does not hold of them.
unfoldable pub included : List (List Cell) → ℕ → ℕ → Bool
included columns c d =
    not (c == d) && list_all (λ a. same_cell a [] || list_any (same_cell a) (slice_index_or columns d [])) (slice_index_or columns c [])

-- the same as a fact, which no column beyond the list meets
pub record Included (columns : List (List Cell)) (c d : ℕ) : Type 0 where
  pub dependent : c < length columns
  pub referenced : d < length columns
  pub other : c ≢ d
  pub each : (a : Cell) → Contains (slice_index_or columns c []) a → a ≢ [] → Contains (slice_index_or columns d []) a

-- all inclusions by position, by dependent column, then by referenced column
unfoldable pub inclusions : List (List Cell) → List (ℕ × ℕ)
inclusions columns = filter (λ p. included columns p.0 p.1) (flat_map (λ c. map (λ d. (c, d)) (upto (length columns))) (upto (length columns)))
