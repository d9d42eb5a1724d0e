-- The natural join of tables, as a relation on rows (Codd, 1970).
use Rattle.std.specs.Prelude.{◌≡◌, ◌≢◌, ◌↔◌, ◌<◌, ℕ, List, [], ◌∷◌, length}
use Rattle.std.specs.List.{All, AllPairs, Contains}
use Rattle.col_set.specs.ColSet.{Columns, empty, all, union, size}
use Rattle.rel_base.specs.Cells.{Row}
use Rattle.rel_base.specs.Projection.{part}

-- what a table is seen as: some columns of a relation, and rows that have a cell for each of them, by ascending column
pub record TableRows : Type 0 where
  pub columns : Columns
  pub rows : List Row

-- each row is as wide as the table has columns
abbrev pub IsFilled : TableRows → Type 0
IsFilled t = All (λ row. length row ≡ size t.columns) t.rows

-- the columns of all these tables
unfoldable pub columns_of : List TableRows → Columns
columns_of [] = empty
columns_of (t ∷ ts) = union t.columns (columns_of ts)

-- how many columns they have together
abbrev pub width_of : List TableRows → ℕ
width_of tables = size (columns_of tables)

-- they are the first so many columns, at least one
pub record AreWhole (tables : List TableRows) : Type 0 where
  pub some : 0 < width_of tables
  pub columns : columns_of tables ≡ all (width_of tables)

-- the row's part on each table's columns is a row of that table
pub record IsMatched (tables : List TableRows) (row : Row) : Type 0 where
  pub each : (t : TableRows) → Contains tables t → Contains t.rows (part t.columns row)

-- A row over n columns is in the natural join exactly where its part on each table's columns is a row of that table.
pub record IsJoined (n : ℕ) (tables : List TableRows) (row : Row) : Type 0 where
  pub wide : length row ≡ n
  pub matched : IsMatched tables row

-- These rows are the natural join of the tables: exactly the rows that are in it, each once.
pub record IsNaturalJoin (n : ℕ) (tables : List TableRows) (rows : List Row) : Type 0 where
  pub exactly : (row : Row) → Contains rows row ↔ IsJoined n tables row
  pub once : AllPairs (λ p q. p ≢ q) rows
