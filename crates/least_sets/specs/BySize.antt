-- Column sets by how many columns they have.
use Rattle.std.specs.Prelude.{◌≡◌, ℕ, List, [], ◌∷◌, ◌++◌, ◌≤◌, length, slice_index_or}
use Rattle.std.specs.Ordering.{nat_cmp}
use Rattle.std.specs.Cmp.Lexicographic.{slice_cmp}
use Rattle.std.specs.declared.cmp.Ordering.{Ordering}
use Rattle.col_set.specs.ColSet.{Columns, columns, size}
use Rattle.col_set.specs.Lists.{Listed}

-- the ascending list of columns, and a number above them all
abbrev pub ended : Columns → List ℕ
ended x = columns x ++ 128 ∷ []

-- of two sets the one that has the least column that only one of them has stands first
abbrev pub first_cmp : Columns → Columns → Ordering
first_cmp x y = slice_cmp nat_cmp (ended x) (ended y)

-- each set of the list has so many columns
pub record AreSized (n : ℕ) (xs : List Columns) : Type 0 where
  pub each : (x : Columns) → Listed x xs → size x ≡ n

-- each of the sets stands in the list at the place that tells how many columns it has, and no other set stands there
pub record AreBySize (xs : List Columns) (lists : List (List Columns)) : Type 0 where
  pub count : length lists ≡ 129
  pub sized : (n : ℕ) → AreSized n (slice_index_or lists n [])
  pub real : (n : ℕ) (x : Columns) → Listed x (slice_index_or lists n []) → Listed x xs
  pub every : (x : Columns) → Listed x xs → Listed x (slice_index_or lists (size x) [])
  pub bound : (x : Columns) → Listed x xs → size x ≤ 128
