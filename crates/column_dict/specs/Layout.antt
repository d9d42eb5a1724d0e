-- How a dictionary keeps its cells: those that are looked up stand in a map with their codes, and for each code
-- it is kept at which place of the map its cell stands. A fresh NULL stands at no place.
use Rattle.std.specs.Prelude.{◌≡◌, ◌≤◌, ℕ, suc, List, [], ◌∷◌, length, map, slice_index_or, if◌then◌else◌}
use Rattle.std.specs.Map.{keys_of}
use Rattle.rel_base.specs.declared.nulls.Nulls.{Nulls}
use Rattle.rel_base.specs.Cells.{Cell}
use Rattle.column_dict.specs.Coding.{is_fresh}

-- the place of a fresh NULL, which no map is long enough to have
abbrev pub nowhere : ℕ
nowhere = 4294967295

-- the cells at these places of a list, with NULL for a place that it lacks
abbrev pub cells_at : List Cell → List ℕ → List Cell
cells_at keys places = map (λ p. slice_index_or keys p []) places

-- the entries of these cells, where the first has the code k
abbrev pub entries_from : Nulls → ℕ → List Cell → List (Cell × ℕ)
entries_from nulls k [] = []
entries_from nulls k (c ∷ cs) = if is_fresh nulls c then entries_from nulls (suc k) cs else (c, k) ∷ entries_from nulls (suc k) cs

-- the places of these cells, where the first entry stands at place p
abbrev pub places_from : Nulls → ℕ → List Cell → List ℕ
places_from nulls p [] = []
places_from nulls p (c ∷ cs) = if is_fresh nulls c then nowhere ∷ places_from nulls p cs else p ∷ places_from nulls (suc p) cs

-- the entries and the places are those of the cells that they give
pub record IsLaid (nulls : Nulls) (entries : List (Cell × ℕ)) (places : List ℕ) : Type 0 where
  pub entries_are : entries ≡ entries_from nulls 0 (cells_at (keys_of entries) places)
  pub places_are : places ≡ places_from nulls 0 (cells_at (keys_of entries) places)
  pub short : length places ≤ nowhere
