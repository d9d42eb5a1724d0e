-- Codes of rows that tell the groups apart.
use Rattle.std.specs.Prelude.{◌≡◌, ◌<◌, ℕ, List, [], length, map, slice_index, slice_index_or}
use Rattle.std.specs.List.{All, Contains}
use Rattle.col_set.specs.Lists.{Listed}

-- codes below a bound that are equal exactly where other codes are
pub record IsRecoded (old new : List ℕ) (bound : ℕ) : Type 0 where
  pub recode : ℕ → ℕ
  pub is : new ≡ map recode old
  pub below : All (λ c. recode c < bound) old
  pub apart : (c d : ℕ) → Contains old c → Contains old d → recode c ≡ recode d → c ≡ d

-- By row number, the place of a group that has the row. For a row in none, the number is no place.
pub record IsTable (groups : List (List ℕ)) (table : List ℕ) : Type 0 where
  pub only : (i : ℕ) → i < length table → slice_index table i < length groups → Listed i (slice_index_or groups (slice_index table i) [])
  pub kept : (g : List ℕ) (i : ℕ) → Listed g groups → Listed i g → (i < length table) × (slice_index table i < length groups)
