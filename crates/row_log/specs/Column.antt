-- What a column is seen as, and what its codes say.
use Rattle.std.specs.Prelude.{◌≡◌, ◌≢◌, ◌<◌, ◌≤◌, ◌↔◌, ℕ, List, [], length, map, slice_index, slice_index_or}
use Rattle.rel_base.specs.declared.nulls.Nulls.{Nulls}
use Rattle.rel_base.specs.Cells.{Cell}
use Rattle.rel_base.specs.Agreement.{Agrees}
use Rattle.column_dict.specs.Coding.{Coding}

-- How NULL is read, and the cells of all rows: that of row number k stands at place k - 1.
pub record ColumnCells : Type 0 where
  pub nulls : Nulls
  pub cells : List Cell

-- Two different rows have equal codes exactly where their cells agree.
pub record AreCodes (c : ColumnCells) (codes : List ℕ) : Type 0 where
  pub long : length codes ≡ length c.cells
  pub agree : (i j : ℕ) → i < length codes → j < length codes → i ≢ j → (slice_index codes i ≡ slice_index codes j)
      ↔ Agrees c.nulls (slice_index_or c.cells i []) (slice_index_or c.cells j [])

-- the column that these codes are, by this dictionary
abbrev pub column_of : Coding → List ℕ → ColumnCells
column_of d codes = record { nulls = d.nulls; cells = map (λ code. slice_index_or d.cells code []) codes }

-- the codes of two rows are equal exactly where the cells that they stand for agree
abbrev pub AgreeByCodes : Coding → List ℕ → Type 0
AgreeByCodes d codes = (i j : ℕ) → i < length codes → j < length codes → i ≢ j → (slice_index codes i ≡ slice_index codes j)
    ↔ Agrees d.nulls (slice_index_or d.cells (slice_index codes i) []) (slice_index_or d.cells (slice_index codes j) [])

-- Each code stands in the dictionary. It was first given to the row at the place that `firsts` has for it: so the codes
-- that rows from a place on brought are those whose first place is not below it.
pub record IsKept (d : Coding) (codes firsts : List ℕ) : Type 0 where
  pub known : (i : ℕ) → i < length codes → slice_index codes i < length d.cells
  pub agree : AgreeByCodes d codes
  pub all : length firsts ≡ length d.cells
  pub first : (i : ℕ) → i < length codes → slice_index firsts (slice_index codes i) ≤ i
  pub later : (c : ℕ) → c < length firsts → c ≤ slice_index firsts c
  pub ascending : (c e : ℕ) → c < e → e < length firsts → slice_index firsts c < slice_index firsts e
  pub within : (c : ℕ) → c < length firsts → slice_index firsts c < length codes
  pub few : length d.cells ≤ length codes
