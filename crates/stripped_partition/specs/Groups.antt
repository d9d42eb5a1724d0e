-- A list of groups as one list of rows and the places at which the groups end.
use Rattle.std.specs.Prelude.{◌≡◌, ◌≤◌, ◌<◌, ◌+◌, ℕ, zero, suc, List, [], ◌∷◌, length, slice_range, slice_index}
use Rattle.std.specs.List.{concat}
use Rattle.rel_base.specs.declared.limits.TheConstants.{MOST_ROWS}

-- the groups of which the first begins at a place, and each later one where the one before it ends
unfoldable pub cut : {X : Type 0} → ℕ → List X → List ℕ → List (List X)
cut start rows [] = []
cut start rows (end ∷ ends) = slice_range rows start end ∷ cut end rows ends

-- where a group begins: where the one before it ends
abbrev pub start_at : List ℕ → ℕ → ℕ
start_at ends zero = zero
start_at ends (suc k) = slice_index ends k

-- the ends rise from a place on, and the last of them is n
abbrev pub EndsRise : ℕ → ℕ → List ℕ → Type 0
EndsRise start n [] = start ≡ n
EndsRise start n (end ∷ ends) = (start < end) × EndsRise end n ends

-- each group has a row, the groups have all rows, and there are at most as many rows as a relation may have
pub record IsCut (rows ends : List ℕ) : Type 0 where
  pub rise : EndsRise 0 (length rows) ends
  pub short : length rows ≤ MOST_ROWS

-- where groups end that stand one after another from a place on
unfoldable pub ends_of : ℕ → List (List ℕ) → List ℕ
ends_of start [] = []
ends_of start (group ∷ groups) = (start + length group) ∷ ends_of (start + length group) groups

-- these rows and ends are those of a list of groups
pub record IsFlat (rows ends : List ℕ) (groups : List (List ℕ)) : Type 0 where
  pub laid : rows ≡ concat groups
  pub cuts : ends ≡ ends_of 0 groups
