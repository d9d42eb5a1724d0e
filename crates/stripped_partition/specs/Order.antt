-- The order of groups by their first rows.
use Rattle.std.specs.Prelude.{◌≢◌, ◌<◌, ◌+◌, ◌*◌, ◌^◌, ◌%◌, ℕ, List, [], ◌∷◌, slice_index, slice_index_or}
use Rattle.col_set.specs.Lists.{Listed}

-- each group's first row is below that of each later group
abbrev pub Ahead : List (List ℕ) → Type 0
Ahead [] = Unit {0}
Ahead (g ∷ gs) = ((h : List ℕ) → Listed h gs → slice_index g 0 < slice_index h 0) × Ahead gs

-- no two groups have the same first row
abbrev pub Apart : List (List ℕ) → Type 0
Apart [] = Unit {0}
Apart (g ∷ gs) = ((h : List ℕ) → Listed h gs → slice_index g 0 ≢ slice_index h 0) × Apart gs

-- the first row of a group and the group's place as one number, by which groups are put in order
abbrev pub key_of : List (List ℕ) → ℕ → ℕ
key_of groups k = slice_index (slice_index_or groups k []) 0 * 2 ^ 32 + k

-- the group whose place a key has
abbrev pub group_at : List (List ℕ) → ℕ → List ℕ
group_at groups key = slice_index_or groups (key % 2 ^ 32) []

-- the same groups, and by their first rows where no two have the same
pub record IsInOrder (old new : List (List ℕ)) : Type 0 where
  pub kept : (g : List ℕ) → Listed g old → Listed g new
  pub only : (g : List ℕ) → Listed g new → Listed g old
  pub ahead : Apart old → Ahead new
