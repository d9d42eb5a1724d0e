-- What a search in a list of column sets in report order finds.
use Rattle.std.specs.Prelude.{◌≡◌, ◌+◌, ◌<◌, ◌≤◌, ℕ, List, length, Result, Ok, Err, slice_index_or}
use Rattle.std.specs.declared.cmp.Ordering.TheVariants.{Less}
use Rattle.col_set.specs.ColSet.{Columns, report_cmp}

-- the sets up to the place i stand before x, and those from j on after it
pub record Parts (xs : List Columns) (x : Columns) (i j : ℕ) : Type 0 where
  pub before : (k : ℕ) (d : Columns) → k < i → k < length xs → report_cmp (slice_index_or xs k d) x ≡ Less
  pub after : (k : ℕ) (d : Columns) → j ≤ k → k < length xs → report_cmp x (slice_index_or xs k d) ≡ Less

-- x stands at the place
pub record Stands (xs : List Columns) (x : Columns) (i : ℕ) : Type 0 where
  pub within : i < length xs
  pub same : (d : Columns) → slice_index_or xs i d ≡ x
  pub parts : Parts xs x i (i + 1)

-- x is not there, and would stand at the place
pub record Lacks (xs : List Columns) (x : Columns) (i : ℕ) : Type 0 where
  pub within : i ≤ length xs
  pub parts : Parts xs x i i

abbrev pub IsPlace : List Columns → Columns → Result ℕ ℕ → Type 0
IsPlace xs x (Ok i) = Stands xs x i
IsPlace xs x (Err i) = Lacks xs x i
