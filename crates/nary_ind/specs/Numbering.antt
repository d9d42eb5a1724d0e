-- How cells get their numbers.
use Rattle.std.specs.Prelude.{◌≡◌, ◌<◌, ◌++◌, ℕ, true, List, [], Some, length, map, slice_get, slice_index_or}
use Rattle.std.specs.List.{All}
use Rattle.column_dict.specs.Coding.{Coding}
use Rattle.rel_base.specs.declared.nulls.Nulls.TheVariants.{Equal}
use Rattle.rel_base.specs.Cells.{Cell, cell}
use Rattle.rel_base.specs.RowState.{RowState}
use Rattle.nary_ind.specs.ListInclusions.{rows_at, width_at}
use Rattle.nary_ind.specs.Unary.{is_used}
use Rattle.nary_ind.specs.Tables.{Coded}

-- numbers of cells: the places that they have among these cells
pub record AreNumbersOf (cells column : List Cell) (numbers : List ℕ) : Type 0 where
  pub known : All (λ n. n < length cells) numbers
  pub same : map (λ n. slice_index_or cells n []) numbers ≡ column

-- a dictionary to which cells were added
pub record IsMore (old new : Coding) : Type 0 where
  pub added : List Cell
  pub behind : new.cells ≡ old.cells ++ added
  pub nulls : new.nulls ≡ Equal

-- the numbers of a column, if it is used
abbrev pub AreNumbersIfUsed : List Cell → List RowState → ℕ → ℕ → List ℕ → Type 0
AreNumbersIfUsed cells rs p c numbers = is_used rs p c ≡ true → AreNumbersOf cells (map (λ x. cell x c) (rows_at rs p)) numbers

-- the table of the relation at a place
pub record IsTableOf (cells : List Cell) (rs : List RowState) (p : ℕ) (t : Coded) : Type 0 where
  pub rows : t.rows ≡ length (rows_at rs p)
  pub columns : length t.columns ≡ width_at rs p
  pub numbers : (c : ℕ) → c < width_at rs p → AreNumbersIfUsed cells rs p c (slice_index_or t.columns c [])

-- the first cell is NULL, and NULL is equal to NULL
pub record StartsWithNull (d : Coding) : Type 0 where
  pub first : slice_get d.cells 0 ≡ Some []
  pub nulls : d.nulls ≡ Equal
