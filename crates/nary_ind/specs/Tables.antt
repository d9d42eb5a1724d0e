-- The rows of relations as numbers that are equal where cells are.
use Rattle.std.specs.Prelude.{◌≡◌, ◌↔◌, ◌<◌, ◌-◌, ◌++◌, ℕ, true, List, [], length, map, replicate, slice_index, slice_index_or}
use Rattle.col_set.specs.Listing.{Listed}
use Rattle.rel_base.specs.Cells.{Cell, cell}
use Rattle.rel_base.specs.RowState.{RowState}
use Rattle.nary_ind.specs.ListInclusions.{rows_at, width_at}
use Rattle.nary_ind.specs.Unary.{is_used}

-- ---- one relation
-- how many rows there are, and for each column the numbers of its cells, or none where the column is not asked of
pub record Coded : Type 0 where
  pub rows : ℕ
  pub columns : List (List ℕ)

-- the number of the cell of a row in a column
abbrev pub number_in : Coded → ℕ → ℕ → ℕ
number_in t c i = slice_index (slice_index_or t.columns c []) i

-- a column whose cells have numbers
pub record IsNumbered (t : Coded) (c : ℕ) : Type 0 where
  pub within : c < length t.columns
  pub full : length (slice_index_or t.columns c []) ≡ t.rows
  pub small : (i : ℕ) → i < t.rows → number_in t c i < 4294967296

-- the numbers of a row in these columns, with zeros behind them up to four
abbrev pub key_in : Coded → List ℕ → ℕ → List ℕ
key_in t cs i = map (λ c. number_in t c i) cs ++ replicate (4 - length cs) 0

-- ---- all relations
abbrev pub table_at : List Coded → ℕ → Coded
table_at ts p = slice_index_or ts p (record { rows = 0; columns = [] })

-- the cell of a row of the relation at a place
abbrev pub cell_at : List RowState → ℕ → ℕ → ℕ → Cell
cell_at rs p i c = cell (slice_index_or (rows_at rs p) i []) c

-- There is a table for each relation, and a list of numbers for each column that is used. Numbers are equal where cells are, in whatever
-- columns and relations, and 0 is the number of NULL.
pub record AreTables (rs : List RowState) (ts : List Coded) : Type 0 where
  pub count : length ts ≡ length rs
  pub rows : (p : ℕ) → p < length rs → (table_at ts p).rows ≡ length (rows_at rs p)
  pub columns : (p : ℕ) → p < length rs → length (table_at ts p).columns ≡ width_at rs p
  pub full : (p c : ℕ) → p < length rs → c < width_at rs p → is_used rs p c ≡ true → IsNumbered (table_at ts p) c
  pub same : (p c i q d j : ℕ) → p < length rs → c < width_at rs p → is_used rs p c ≡ true → i < (table_at ts p).rows
      → q < length rs → d < width_at rs q → is_used rs q d ≡ true → j < (table_at ts q).rows
      → (number_in (table_at ts p) c i ≡ number_in (table_at ts q) d j) ↔ (cell_at rs p i c ≡ cell_at rs q j d)
  pub null : (p c i : ℕ) → p < length rs → c < width_at rs p → is_used rs p c ≡ true → i < (table_at ts p).rows
      → (number_in (table_at ts p) c i ≡ 0) ↔ (cell_at rs p i c ≡ [])

-- all columns of a side are used
abbrev pub AreUsed : List RowState → ℕ → List ℕ → Type 0
AreUsed rs p cs = (c : ℕ) → Listed c cs → is_used rs p c ≡ true
