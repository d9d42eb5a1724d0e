-- The distinct cells of a column.
use Rattle.std.specs.Prelude.{if◌then◌else◌, ◌∷◌, suc, ◌≡◌, ◌≢◌, ◌<◌, ◌↔◌, ℕ, Bool, true, false, List, [], length, slice_index, slice_index_or}
use Rattle.std.specs.List.{AllPairs, Contains}
use Rattle.rel_base.specs.Cells.{Cell}
use Rattle.rel_base.specs.RowState.{RowState}
use Rattle.rel_base.specs.Inclusion.{column_cells}

-- These are the cells of live rows in a column that are not NULL, each once.
pub record AreDistinctCells (r : RowState) (column : ℕ) (cells : List Cell) : Type 0 where
  pub each : (c : Cell) → Contains cells c ↔ (Contains (column_cells r column) c × (c ≢ []))
  pub once : AllPairs (λ a b. a ≢ b) cells

-- These are the flagged cells that are not NULL, each once.
pub record AreFlaggedCells (all : List Cell) (flags : List Bool) (cells : List Cell) : Type 0 where
  pub each : (c : Cell) → Contains cells c ↔ ((i : ℕ) × (slice_index_or flags i false ≡ true) × (i < length all) × (slice_index_or all i [] ≡ c) × (c ≢ []))
  pub once : AllPairs (λ a b. a ≢ b) cells

-- of the first n rows, the flagged ones have the codes that are marked as used
pub record AreUsed (flags : List Bool) (codes : List ℕ) (n : ℕ) (used : List Bool) : Type 0 where
  pub there : (i : ℕ) → i < n → slice_index_or flags i false ≡ true → slice_index_or used (slice_index codes i) false ≡ true
  pub back : (c : ℕ) → slice_index_or used c false ≡ true → (i : ℕ) × (i < n) × (slice_index_or flags i false ≡ true) × (slice_index codes i ≡ c)

-- how many are not marked
unfoldable pub unmarked : List Bool → ℕ
unmarked [] = 0
unmarked (is ∷ used) = if is then unmarked used else suc (unmarked used)
