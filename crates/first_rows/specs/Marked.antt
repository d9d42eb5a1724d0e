-- Rows that are marked, by their places, since they stand in a group behind its first row.
use Rattle.std.specs.Prelude.{◌≡◌, ◌<◌, ◌+◌, ◌-◌, ◌⊎◌, ◌&&◌, ℕ, Bool, true, false, not, List, [], length, slice_index_or}
use Rattle.std.specs.List.{filter, range_with_len}
use Rattle.rel_base.specs.CodeTable.{CodeTable, live_at}

-- the row at place p of a group, of places 1 to k - 1, is the row at this place
pub record IsBehind (group : List ℕ) (k place : ℕ) : Type 0 where
  pub at : ℕ
  pub some : 0 < at
  pub below : at < k
  pub is : slice_index_or group at 0 ≡ place + 1

-- beside the rows that were marked, just those of a group at places 1 to k - 1 are
pub record Marked (group : List ℕ) (old : List Bool) (k : ℕ) (new : List Bool) : Type 0 where
  pub long : length new ≡ length old
  pub kept : (place : ℕ) → slice_index_or old place false ≡ true → slice_index_or new place false ≡ true
  pub each : (place : ℕ) → place < length old → IsBehind group k place → slice_index_or new place false ≡ true
  pub only : (place : ℕ) → slice_index_or new place false ≡ true → (slice_index_or old place false ≡ true) ⊎ IsBehind group k place

-- the row at this place stands behind the first of one of the groups at places 0 to k - 1
pub record StandsBehind (groups : List (List ℕ)) (k place : ℕ) : Type 0 where
  pub group : ℕ
  pub below : group < k
  pub is : IsBehind (slice_index_or groups group []) (length (slice_index_or groups group [])) place

-- of n rows just those are marked that stand behind the first of one of the groups at places 0 to k - 1
pub record MarkedBy (groups : List (List ℕ)) (n k : ℕ) (marks : List Bool) : Type 0 where
  pub long : length marks ≡ n
  pub each : (place : ℕ) → place < n → StandsBehind groups k place → slice_index_or marks place false ≡ true
  pub only : (place : ℕ) → slice_index_or marks place false ≡ true → StandsBehind groups k place

-- whether a row is live and not marked
abbrev pub is_unmarked : CodeTable → List Bool → ℕ → Bool
is_unmarked s later row = live_at s row && not (slice_index_or later (row - 1) false)

-- the rows that are, by number
unfoldable pub unmarked_rows : CodeTable → List Bool → List ℕ
unmarked_rows s later = filter (is_unmarked s later) (range_with_len 1 (s.to - 1))
