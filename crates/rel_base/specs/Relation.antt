-- What a relation is seen as.
use Rattle.std.specs.Prelude.{◌≡◌, ◌<◌, ◌≤◌, ℕ, List, [], length, map, slice_index_or}
use Rattle.std.specs.List.{All}
use Rattle.col_set.specs.ColSet.{upto}
use Rattle.col_set.specs.declared.col_set.TheConstants.{MOST_COLUMNS}
use Rattle.rel_base.specs.declared.limits.TheConstants.{MOST_ROWS}
use Rattle.rel_base.specs.Cells.{Cell, Row}

-- the names of the columns, and the rows
pub record Content : Type 0 where
  pub names : Row
  pub rows : List Row

-- there are columns, and each row is as wide as there are columns; columns and rows are no more than a relation may have
pub record IsContent (c : Content) : Type 0 where
  pub some : 0 < length c.names
  pub narrow : length c.names ≤ MOST_COLUMNS
  pub widths : All (λ row. length row ≡ length c.names) c.rows
  pub short : length c.rows ≤ MOST_ROWS

-- the row at a place across these columns
unfoldable pub row_across : List (List Cell) → ℕ → Row
row_across columns k = map (λ cells. slice_index_or cells k []) columns

-- the first n rows across these columns
unfoldable pub rows_across : List (List Cell) → ℕ → List Row
rows_across columns n = map (row_across columns) (upto n)

-- How the rows of a relation are kept: a column for each name, each with as many cells as there are rows.
pub record AreColumns (names : Row) (columns : List (List Cell)) (count : ℕ) : Type 0 where
  pub some : 0 < length names
  pub narrow : length names ≤ MOST_COLUMNS
  pub wide : length columns ≡ length names
  pub even : All (λ cells. length cells ≡ count) columns
  pub short : count ≤ MOST_ROWS
