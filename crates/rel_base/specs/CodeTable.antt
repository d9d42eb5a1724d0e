-- What a snapshot is seen as: the codes of all rows given, by column, and which rows are live.
use Rattle.std.specs.Prelude.{◌≡◌, ◌<◌, ◌≤◌, ◌+◌, ◌-◌, ℕ, Bool, false, List, [], length, slice_index, slice_index_or, Option, Some, None}
use Rattle.std.specs.List.{All}
use Rattle.col_set.specs.declared.col_set.TheConstants.{MOST_COLUMNS}
use Rattle.rel_base.specs.declared.limits.TheConstants.{MOST_ROWS}

-- the list in a value that may be there, empty where it is not
abbrev pub list_in : {A : Type 0} → (A → List ℕ) → Option A → List ℕ
list_in f None = []
list_in f (Some a) = f a

-- The code and the live flag of row number k stand at place k - 1, and each number is below `to`.
pub record CodeTable : Type 0 where
  pub codes : List (List ℕ)
  pub live : List Bool
  pub to : ℕ

-- there are columns, as many rows at most as a relation is ever given, and each list has a place for each number below `to`
pub record IsCodeTable (s : CodeTable) : Type 0 where
  pub some : 0 < length s.codes
  pub narrow : length s.codes ≤ MOST_COLUMNS
  pub first : 0 < s.to
  pub short : s.to ≤ MOST_ROWS + 1
  pub coded : All (λ codes. length codes + 1 ≡ s.to) s.codes
  pub flagged : length s.live + 1 ≡ s.to

-- the code of a row's cell in a column
abbrev pub code_at : CodeTable → ℕ → ℕ → ℕ
code_at s number k = slice_index (slice_index_or s.codes k []) (number - 1)

-- whether a row is live: no row with a number at or beyond `to` is
abbrev pub live_at : CodeTable → ℕ → Bool
live_at s number = slice_index_or s.live (number - 1) false
