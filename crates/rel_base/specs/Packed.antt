-- Cells that stand packed: their bytes one after another, and for each the place where it ends.
use Rattle.std.specs.Prelude.{◌≡◌, ◌<◌, ◌≤◌, ◌^◌, ◌∷◌, ℕ, List, length, map, slice_range, slice_index_or}
use Rattle.col_set.specs.ColSet.{upto}
use Rattle.rel_base.specs.Cells.{Cell}

-- where the cell at a place starts, which is where the one before it ends
abbrev pub start_at : List ℕ → ℕ → ℕ
start_at ends k = slice_index_or (0 ∷ ends) k 0

-- where the cell at a place ends
abbrev pub end_at : List ℕ → ℕ → ℕ
end_at ends k = slice_index_or ends k 0

-- the cell at a place
unfoldable pub packed_cell : List ℕ → List ℕ → ℕ → Cell
packed_cell bytes ends k = slice_range bytes (start_at ends k) (end_at ends k)

-- all cells, in order
unfoldable pub packed_cells : List ℕ → List ℕ → List Cell
packed_cells bytes ends = map (packed_cell bytes ends) (upto (length ends))

-- each cell ends within the bytes and not before it starts, and the last one where the bytes end
pub record ArePacked (bytes ends : List ℕ) : Type 0 where
  pub ascending : (k : ℕ) → k < length ends → start_at ends k ≤ end_at ends k
  pub within : (k : ℕ) → k < length ends → end_at ends k ≤ length bytes
  pub last : start_at ends (length ends) ≡ length bytes
  pub few : length bytes < 2 ^ 32
