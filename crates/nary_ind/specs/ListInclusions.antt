-- Inclusions of several columns (De Marchi, Lopes and Petit 2002), over the cells of live rows.
use Rattle.std.specs.Prelude.{◌≡◌, ◌≢◌, ◌⊎◌, ◌<◌, ℕ, zero, suc, nat_lt, ◌==◌, Bool, true, not, ◌&&◌, ◌||◌, List, [], ◌∷◌, length, map, slice_index, slice_index_or}
use Rattle.std.specs.List.{All, AllPairs, Contains, filter, flat_map, list_all, list_any}
use Rattle.std.specs.List.Sorted.{IsStrictlyIncreasing}
use Rattle.col_set.specs.ColSet.{upto}
use Rattle.rel_base.specs.Cells.{Row, cell}
use Rattle.rel_base.specs.Agreement.{same_cell}
use Rattle.rel_base.specs.Projection.{same_row}
use Rattle.rel_base.specs.RowState.{RowState, width, row}
use Rattle.nary_ind.specs.declared.found.ListInd.{ListInd}
use Rattle.nary_ind.specs.declared.found.Side.{Side}

-- ---- lists of columns
-- all lists of k of n columns, compared from the left
unfoldable pub column_lists : ℕ → ℕ → List (List ℕ)
column_lists zero n = [] ∷ []
column_lists (suc k) n = flat_map (λ c. map (λ cs. c ∷ cs) (column_lists k n)) (upto n)

-- how many columns the relation at a place has
abbrev pub width_at : List RowState → ℕ → ℕ
width_at rs p = slice_index_or (map width rs) p 0

-- all lists of k columns of one relation, by relation
unfoldable pub all_lists : ℕ → List RowState → List Side
all_lists k rs = flat_map (λ p. map (λ cs. record { rel = p; columns = cs }) (column_lists k (width_at rs p))) (upto (length rs))

-- whether each column stands before all greater ones alone
abbrev pub is_ascending : List ℕ → Bool
is_ascending [] = true
is_ascending (c ∷ cs) = list_all (nat_lt c) cs && is_ascending cs

-- whether no column stands twice
abbrev pub are_different : List ℕ → Bool
are_different [] = true
are_different (c ∷ cs) = list_all (λ d. not (c == d)) cs && are_different cs

-- whether at no place both lists have the same column
abbrev pub differ_by_place : List ℕ → List ℕ → Bool
differ_by_place [] ds = true
differ_by_place (c ∷ cs) [] = true
differ_by_place (c ∷ cs) (d ∷ ds) = not (c == d) && differ_by_place cs ds

-- Whether an inclusion of lists is one of those that are asked for: the dependent list ascends, the referenced columns are different, and
-- at no place both sides are the same column of the same relation. Relations are the same by their position.
unfoldable pub is_formed : ListInd → Bool
is_formed i = is_ascending i.dep_cols && are_different i.into_cols && (not (i.dep_rel == i.into_rel) || differ_by_place i.dep_cols i.into_cols)

-- ---- tuples
-- the cells of a row in these columns
abbrev pub tuple : List ℕ → Row → Row
tuple columns cells = map (cell cells) columns

-- the live rows of the relation at a place
abbrev pub rows_at : List RowState → ℕ → List Row
rows_at rs p = slice_index_or (map (λ r. map (row r) r.live) rs) p []

-- their tuples
abbrev pub tuples_at : List RowState → ℕ → List ℕ → List Row
tuples_at rs p columns = map (tuple columns) (rows_at rs p)

-- whether all cells of a tuple are NULL
abbrev pub is_null : Row → Bool
is_null t = list_all (λ a. same_cell a []) t

-- whether each of these tuples that is not NULL throughout is one of the others, NULL being equal to NULL
unfoldable pub are_among : List Row → List Row → Bool
are_among ts us = list_all (λ t. is_null t || list_any (same_row t) us) ts

-- whether an inclusion of lists holds in the rows
abbrev pub holds_among : List RowState → ListInd → Bool
holds_among rs i = are_among (tuples_at rs i.dep_rel i.dep_cols) (tuples_at rs i.into_rel i.into_cols)

-- ---- what is listed
-- the inclusion of one side in another
abbrev pub from_to : Side → Side → ListInd
from_to d i = record { dep_rel = d.rel; into_rel = i.rel; dep_cols = d.columns; into_cols = i.columns }

-- it is asked for, and it holds
abbrev pub is_list_inclusion : List RowState → ListInd → Bool
is_list_inclusion rs i = is_formed i && holds_among rs i

-- the inclusions of lists of k columns: by dependent relation, dependent list, referenced relation and referenced list
unfoldable pub of_width : ℕ → List RowState → List ListInd
of_width k rs = filter (is_list_inclusion rs) (flat_map (λ d. map (from_to d) (all_lists k rs)) (all_lists k rs))

-- those of 1 up to w columns, those of fewer columns first
unfoldable pub list_inclusions : ℕ → List RowState → List ListInd
list_inclusions w rs = flat_map (λ k. of_width (suc k) rs) (upto w)

-- ---- the same as a fact
pub record IsListInclusion (rs : List RowState) (i : ListInd) : Type 0 where
  pub dependent : i.dep_rel < length rs
  pub referenced : i.into_rel < length rs
  pub long : length i.into_cols ≡ length i.dep_cols
  pub dep_within : All (λ c. c < width_at rs i.dep_rel) i.dep_cols
  pub into_within : All (λ c. c < width_at rs i.into_rel) i.into_cols
  pub ascending : IsStrictlyIncreasing i.dep_cols
  pub different : AllPairs (λ c d. c ≢ d) i.into_cols
  pub apart : i.dep_rel ≡ i.into_rel → (k : ℕ) → k < length i.dep_cols → slice_index i.dep_cols k ≢ slice_index i.into_cols k
  pub each : (t : Row) → Contains (tuples_at rs i.dep_rel i.dep_cols) t → ((k : ℕ) → k < length t → slice_index_or t k [] ≡ []) ⊎ Contains (tuples_at rs i.into_rel i.into_cols) t
