-- How the rows and live numbers of a row state are kept: the rows by column, the numbers as a flag a row.
use Rattle.std.specs.Prelude.{◌≡◌, ◌<◌, ◌≤◌, ◌-◌, ◌++◌, ◌∷◌, ℕ, Bool, false, List, [], length, map, slice_index_or}
use Rattle.std.specs.List.{All, filter, range_with_len}
use Rattle.rel_base.specs.declared.nulls.Nulls.{Nulls}
use Rattle.rel_base.specs.declared.nulls.Nulls.TheVariants.{Equal}
use Rattle.rel_base.specs.Cells.{Cell, Row, cell}
use Rattle.rel_base.specs.Relation.{IsContent}
use Rattle.col_set.specs.ColSet.{upto}
use Rattle.col_set.specs.declared.col_set.TheConstants.{MOST_COLUMNS}
use Rattle.rel_base.specs.declared.limits.TheConstants.{MOST_ROWS}
use Rattle.row_log.specs.Column.{ColumnCells}

-- the row at a place of these columns
unfoldable pub row_at : List ColumnCells → ℕ → Row
row_at columns k = map (λ c. slice_index_or c.cells k []) columns

-- the first n rows of these columns
unfoldable pub rows_of : List ColumnCells → ℕ → List Row
rows_of columns n = map (row_at columns) (upto n)

-- the numbers of the flagged rows, ascending: the flag of row number k stands at place k - 1
unfoldable pub live_of : List Bool → List ℕ
live_of flags = filter (λ number. slice_index_or flags (number - 1) false) (range_with_len 1 (length flags))

-- a column of n rows that reads NULL so
pub record IsColumnOf (reading : Nulls) (n : ℕ) (c : ColumnCells) : Type 0 where
  pub nulls : c.nulls ≡ reading
  pub long : length c.cells ≡ n

-- no cells, for a place beyond the last column
abbrev pub no_column : ColumnCells
no_column = record { nulls = Equal; cells = [] }

-- the column at a place
abbrev pub column_at : List ColumnCells → ℕ → ColumnCells
column_at columns j = slice_index_or columns j no_column

-- the column with one cell more
abbrev pub with_cell : ColumnCells → Row → ℕ → ColumnCells
with_cell c row j = record { nulls = c.nulls; cells = c.cells ++ cell row j ∷ [] }

-- the column of these cells
abbrev pub coded_cells : Nulls → List Cell → ColumnCells
coded_cells nulls cells = record { nulls = nulls; cells = cells }

-- so many columns of these rows
pub record AreColumnsOf (nulls : Nulls) (rows : List Row) (count : ℕ) (columns : List ColumnCells) : Type 0 where
  pub long : length columns ≡ count
  pub each : (j : ℕ) → j < count → column_at columns j ≡ coded_cells nulls (map (λ row. cell row j) rows)

-- so many rows, that a relation of these names may have, and their columns
pub record AreCodedRows (names : Row) (nulls : Nulls) (rows : List Row) (count : ℕ) (columns : List ColumnCells) : Type 0 where
  pub content : IsContent (record { names = names; rows = rows })
  pub columns_are : AreColumnsOf nulls rows (length names) columns
  pub many : length rows ≡ count

-- each column got its cell of this row
pub record HasRow (old : List ColumnCells) (row : Row) (new : List ColumnCells) : Type 0 where
  pub long : length new ≡ length old
  pub each : (j : ℕ) → j < length old → column_at new j ≡ with_cell (column_at old j) row j

-- What is kept of a row state: as many columns as there are names, each with a cell for each flag, and the number of flagged rows.
pub record IsLog (width : ℕ) (nulls : Nulls) (limit : ℕ) (columns : List ColumnCells) (flags : List Bool) (live : ℕ) : Type 0 where
  pub some : 0 < width
  pub narrow : width ≤ MOST_COLUMNS
  pub wide : length columns ≡ width
  pub each : All (IsColumnOf nulls (length flags)) columns
  pub short : length flags ≤ MOST_ROWS
  pub few : limit ≤ MOST_ROWS
  pub count : live ≡ length (live_of flags)
