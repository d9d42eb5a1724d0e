-- Laws of inclusions of lists.
use Rattle.std.specs.Prelude.{◌≡◌, ◌<◌, ◌≤◌, ◌+◌, ◌↔◌, ℕ, zero, suc, Bool, true, List, [], ◌∷◌, length, map}
use Rattle.std.specs.List.{AllPairs, Contains}
use Rattle.std.specs.declared.cmp.Ordering.{Ordering}
use Rattle.std.specs.declared.cmp.Ordering.TheVariants.{Less}
use Rattle.std.specs.Ordering.{nat_cmp, on, ordering_then, then_cmp}
use Rattle.std.specs.Cmp.Lexicographic.{slice_cmp}
use Rattle.rel_base.specs.RowState.{RowState, width}
use Rattle.rel_base.specs.Inclusion.{all_columns, included}
use Rattle.rel_base.specs.Cells.{Row, Cell}
use Rattle.nary_ind.specs.declared.found.ListInd.{ListInd}
use Rattle.nary_ind.specs.declared.found.Side.{Side}
use Rattle.nary_ind.specs.ListInclusions.{IsListInclusion, are_among, from_to, is_list_inclusion, is_null, list_inclusions, tuples_at, width_at}

-- ---- width 1
-- where the columns of the relation at a place begin among the columns of all, by the relations' widths
abbrev pub start_of : List ℕ → ℕ → ℕ
start_of [] p = 0
start_of (w ∷ ws) zero = 0
start_of (w ∷ ws) (suc p) = w + start_of ws p

-- the position of a column among the columns of all relations
abbrev pub position_of : List RowState → ℕ → ℕ → ℕ
position_of rs p c = start_of (map width rs) p + c

-- whether a column of one relation is included in a column of another, by their positions
unfoldable pub is_unary : List RowState → ℕ → ℕ → ℕ → ℕ → Bool
is_unary rs p c q d = included (all_columns rs) (position_of rs p c) (position_of rs q d)

-- Lists of one column are included exactly where their columns are.
abbrev pub WidthOneIsUnary : Type 0
WidthOneIsUnary = (rs : List RowState) (p c q d : ℕ) → p < length rs → c < width_at rs p → q < length rs → d < width_at rs q
    → is_list_inclusion rs (from_to (record { rel = p; columns = c ∷ [] }) (record { rel = q; columns = d ∷ [] })) ≡ is_unary rs p c q d

-- ---- one place less
-- a list without what stands at a place
abbrev pub without_place : {A : Type 0} → List A → ℕ → List A
without_place [] k = []
without_place (c ∷ cs) zero = cs
without_place (c ∷ cs) (suc k) = c ∷ without_place cs k

-- An inclusion of lists stays one where a place is left out.
abbrev pub FewerPlacesStay : Type 0
FewerPlacesStay = (rs : List RowState) (d i : Side) (k : ℕ) → is_list_inclusion rs (from_to d i) ≡ true
    → is_list_inclusion rs (from_to (record { rel = d.rel; columns = without_place d.columns k }) (record { rel = i.rel; columns = without_place i.columns k })) ≡ true

-- ---- tuples as cells of one column
-- A code of tuples of so many cells: different tuples have different codes, and those that are NULL throughout are coded as NULL, they alone.
pub record IsTupleCode (n : ℕ) (code : Row → Cell) : Type 0 where
  pub injective : (t u : Row) → length t ≡ n → length u ≡ n → code t ≡ code u → t ≡ u
  pub null : (t : Row) → length t ≡ n → (code t ≡ []) ↔ (is_null t ≡ true)

-- Lists are included exactly where one column of such codes is included in another.
abbrev pub CodesTellInclusions : Type 0
CodesTellInclusions = (rs : List RowState) (d i : Side) (n : ℕ) (code : Row → Cell) → length d.columns ≡ n → length i.columns ≡ n → IsTupleCode n code
    → included (map code (tuples_at rs d.rel d.columns) ∷ map code (tuples_at rs i.rel i.columns) ∷ []) 0 1
    ≡ are_among (tuples_at rs d.rel d.columns) (tuples_at rs i.rel i.columns)

-- ---- what is listed
-- the order of inclusions of lists: by width, dependent relation, dependent list, referenced relation and referenced list, lists compared from the left
abbrev pub side_cmp : Side → Side → Ordering
side_cmp = then_cmp (on (λ s. s.rel) nat_cmp) (on (λ s. s.columns) (slice_cmp nat_cmp))

abbrev pub ind_cmp : ListInd → ListInd → Ordering
ind_cmp i j = ordering_then (nat_cmp (length i.dep_cols) (length j.dep_cols))
    (ordering_then (side_cmp (record { rel = i.dep_rel; columns = i.dep_cols }) (record { rel = j.dep_rel; columns = j.dep_cols }))
    (side_cmp (record { rel = i.into_rel; columns = i.into_cols }) (record { rel = j.into_rel; columns = j.into_cols })))

-- The list has each inclusion of 1 up to w columns, once, in order, and nothing else.
pub record InclusionsListed (w : ℕ) (rs : List RowState) : Type 0 where
  pub each : (i : ListInd) → Contains (list_inclusions w rs) i ↔ ((0 < length i.dep_cols) × (length i.dep_cols ≤ w) × IsListInclusion rs i)
  pub in_order : AllPairs (λ i j. ind_cmp i j ≡ Less) (list_inclusions w rs)
