-- Functional dependencies and uniqueness over the live rows of a row state.
use Rattle.std.specs.Prelude.{◌≡◌, ◌≢◌, ◌<◌, ℕ, nat_lt, Bool, true, not, ◌||◌, List, [], ◌∷◌, ◌++◌, map}
use Rattle.std.specs.List.{filter, list_all, Contains}
use Rattle.col_set.specs.declared.target.Target.{Target}
use Rattle.col_set.specs.declared.target.Target.TheVariants.{RowId}
use Rattle.col_set.specs.ColSet.{Columns, IsSubset, subset}
use Rattle.col_set.specs.Target.{has_target}
use Rattle.rel_base.specs.Agreement.{agree}
use Rattle.rel_base.specs.RowState.{RowState, width, row}

-- each element with each later one
unfoldable pub pairs : {X : Type 0} → List X → List (X × X)
pairs [] = []
pairs (x ∷ xs) = map (λ y. (x, y)) xs ++ pairs xs

-- the agree set of the rows with these numbers
abbrev pub agree_of : RowState → ℕ → ℕ → Columns
agree_of r i j = agree r.nulls (width r) (row r i) (row r j)

-- the agree sets of every two different live rows
unfoldable pub agree_sets : RowState → List Columns
agree_sets r = map (λ p. agree_of r p.0 p.1) (pairs r.live)

-- whether each of these agree sets that contains x contains t
abbrev pub determined : List Columns → Columns → Target → Bool
determined ws x t = list_all (λ w. not (subset x w) || has_target w t) ws

-- X determines t: every two different live rows whose agree set contains X have it contain t
unfoldable pub holds : RowState → Columns → Target → Bool
holds r x t = determined (agree_sets r) x t

-- the same as a fact
pub record Holds (r : RowState) (x : Columns) (t : Target) : Type 0 where
  pub each : (i j : ℕ) → Contains r.live i → Contains r.live j → i ≢ j → IsSubset x (agree_of r i j) → has_target (agree_of r i j) t ≡ true

-- the row state whose live rows are those with a number below b
abbrev pub below : ℕ → RowState → RowState
below b r = record r { live = filter (λ i. nat_lt i b) r.live }

-- X determines t among the rows with a number below b
abbrev pub holds_below : ℕ → RowState → Columns → Target → Bool
holds_below b r x t = holds (below b r) x t

-- the same as a fact
pub record HoldsBelow (b : ℕ) (r : RowState) (x : Columns) (t : Target) : Type 0 where
  pub each : (i j : ℕ) → Contains r.live i → Contains r.live j → i < b → j < b → i ≢ j → IsSubset x (agree_of r i j) → has_target (agree_of r i j) t ≡ true

-- X is unique: no two different live rows agree on all of it
abbrev pub unique : RowState → Columns → Bool
unique r x = holds r x RowId
