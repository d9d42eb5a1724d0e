-- What is known of the columns that others are included in.
use Rattle.std.specs.Prelude.{◌≡◌, ℕ, true, List, slice_index_or}
use Rattle.col_set.specs.ColSet.{Columns, empty, has}
use Rattle.rel_base.specs.Cells.{Cell}
use Rattle.rel_base.specs.Inclusion.{included}

-- The column is included in each column of the set.
pub record IsIncludedIn (columns : List (List Cell)) (dependent : ℕ) (referenced : Columns) : Type 0 where
  pub each : (d : ℕ) → has referenced d ≡ true → included columns dependent d ≡ true

-- Each of the first columns is included in each column of the set at its place.
pub record AreIncludedIn (columns : List (List Cell)) (sets : List Columns) : Type 0 where
  pub each : (c : ℕ) → IsIncludedIn columns c (slice_index_or sets c empty)
