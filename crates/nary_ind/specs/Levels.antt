-- Levels of a search by width (MIND; De Marchi, Lopes and Petit 2002).
use Rattle.std.specs.Prelude.{◌≡◌, ◌<◌, ◌-◌, ◌++◌, ◌==◌, ◌&&◌, not, ℕ, Bool, true, List, [], ◌∷◌, length, map, slice_index}
use Rattle.std.specs.List.{filter, flat_map}
use Rattle.col_set.specs.ColSet.{upto}
use Rattle.col_set.specs.Listing.{Listed}
use Rattle.rel_base.specs.RowState.{RowState}
use Rattle.nary_ind.specs.declared.found.Side.{Side}
use Rattle.nary_ind.specs.declared.found.Group.{Group}
use Rattle.nary_ind.specs.declared.found.ListInd.{ListInd}
use Rattle.nary_ind.specs.ListInclusions.{all_lists, from_to, width_at, is_formed, is_list_inclusion}
use Rattle.nary_ind.specs.Laws.{is_unary}

-- ---- groups
-- a dependent list and the lists that it is included in, as a group is seen
abbrev pub Grouped : Type 0
Grouped = Side × List Side

abbrev pub grouped : Group → Side × List Side
grouped g = (g.side, g.into.items)

abbrev pub has_some : Side × List Side → Bool
has_some g = not (length g.1 == 0)

-- the lists that a list of k columns is included in
unfoldable pub into_of : List RowState → ℕ → Side → List Side
into_of rs k d = filter (λ i. is_list_inclusion rs (from_to d i)) (all_lists k rs)

-- all lists of k columns that are included in some, each with these
unfoldable pub groups : List RowState → ℕ → List (Side × List Side)
groups rs k = filter has_some (map (λ d. (d, into_of rs k d)) (all_lists k rs))

-- the inclusions of a group
abbrev pub listed_of : Side × List Side → List ListInd
listed_of g = map (from_to g.0) g.1

-- a list of the relation at a place, with columns of that relation
pub record IsSide (rs : List RowState) (k : ℕ) (s : Side) : Type 0 where
  pub rel : s.rel < length rs
  pub long : length s.columns ≡ k
  pub within : (c : ℕ) → Listed c s.columns → c < width_at rs s.rel

-- a list of k columns beside lists that it is included in
pub record IsGroup (rs : List RowState) (k : ℕ) (g : Side × List Side) : Type 0 where
  pub side : IsSide rs k g.0
  pub into : (i : Side) → Listed i g.1 → IsSide rs k i
  pub holds : (i : Side) → Listed i g.1 → is_list_inclusion rs (from_to g.0 i) ≡ true

-- ---- one column more
abbrev pub extend : Side → ℕ → Side
extend s c = record { rel = s.rel; columns = s.columns ++ c ∷ [] }

abbrev pub grown : List RowState → Side → List Side
grown rs s = map (extend s) (upto (width_at rs s.rel))

-- what a dependent list is included in, of these lists with one column more
unfoldable pub next_into : List RowState → Side → List Side → List Side
next_into rs d is = filter (λ i. is_list_inclusion rs (from_to d i)) (flat_map (grown rs) is)

-- the groups of the next width that come of a group
unfoldable pub next_groups : List RowState → Side × List Side → List (Side × List Side)
next_groups rs g = filter has_some (map (λ c. (extend g.0 c, next_into rs (extend g.0 c) g.1)) (upto (width_at rs g.0.rel)))

-- ---- candidates
abbrev pub last_column : Side → ℕ
last_column s = slice_index s.columns (length s.columns - 1)

-- whether an inclusion is asked for, and its last columns are included
unfoldable pub is_candidate : List RowState → Side → Side → Bool
is_candidate rs d i = is_formed (from_to d i) && is_unary rs d.rel (last_column d) i.rel (last_column i)
