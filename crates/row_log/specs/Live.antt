-- The cells that live rows have in a column, as the marked codes of its dictionary.
use Rattle.std.specs.Prelude.{◌≡◌, ◌≢◌, ◌<◌, ◌↔◌, ℕ, Bool, true, false, List, [], Some, length, slice_get, slice_index_or}
use Rattle.std.specs.List.{Contains}
use Rattle.rel_base.specs.declared.nulls.Nulls.TheVariants.{Equal}
use Rattle.rel_base.specs.Cells.{Cell}
use Rattle.rel_base.specs.RowState.{RowState, width}
use Rattle.rel_base.specs.Inclusion.{column_cells}
use Rattle.row_log.specs.Marked.{Marked}

-- a cell has a code that is marked
abbrev pub HasMarked : Marked → Cell → Type 0
HasMarked m a = (c : ℕ) × (slice_index_or m.used c false ≡ true) × (slice_get m.coding.cells c ≡ Some a)

-- The code is marked, and its cell is not NULL and has no marked code among the others.
pub record IsLacking (m others : Marked) (code : ℕ) : Type 0 where
  pub cell : Cell
  pub marked : slice_index_or m.used code false ≡ true
  pub at : slice_get m.coding.cells code ≡ Some cell
  pub filled : cell ≢ []
  pub lacks : HasMarked others cell → ⊥

-- The cells with marked codes are the cells of the flagged rows.
pub record AreMarked (all : List Cell) (flags : List Bool) (m : Marked) : Type 0 where
  pub each : (a : Cell) → HasMarked m a ↔ ((i : ℕ) × (slice_index_or flags i false ≡ true) × (i < length all) × (slice_index_or all i [] ≡ a))

-- The cells with marked codes are those that live rows have in a column.
pub record IsLiveColumn (r : RowState) (k : ℕ) (m : Marked) : Type 0 where
  pub each : (a : Cell) → HasMarked m a ↔ Contains (column_cells r k) a

-- no codes, for a place beyond the last column
abbrev pub no_codes : Marked
no_codes = record { coding = record { nulls = Equal; cells = [] }; used = [] }

-- the marked codes at a place
abbrev pub marked_at : List Marked → ℕ → Marked
marked_at columns k = slice_index_or columns k no_codes

-- the live cells of each column
pub record AreLiveColumns (r : RowState) (columns : List Marked) : Type 0 where
  pub long : length columns ≡ width r
  pub each : (k : ℕ) → k < width r → IsLiveColumn r k (marked_at columns k)
