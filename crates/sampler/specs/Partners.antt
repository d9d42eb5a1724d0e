-- A table of partners: at a row's number the number of its partner, or 0.
use Rattle.std.specs.Prelude.{◌≡◌, ◌⊎◌, ◌<◌, ◌+◌, ◌-◌, ◌==◌, ℕ, not, List, length, map, slice_index}
use Rattle.std.specs.List.{filter, range_with_len}

-- j stands so many places behind i in a group
pub record IsAhead (distance : ℕ) (group : List ℕ) (i j : ℕ) : Type 0 where
  pub place : ℕ
  pub within : place + distance < length group
  pub first : slice_index group place ≡ i
  pub second : slice_index group (place + distance) ≡ j

-- the table after each row of a group up to a place got the one that stands so many places behind it
pub record HasPutBelow (distance to : ℕ) (group old new : List ℕ) : Type 0 where
  pub size : length new ≡ length old
  pub only : (i : ℕ) → i < length new → (slice_index new i ≡ slice_index old i) ⊎ IsAhead distance group i (slice_index new i)
  pub each : (place : ℕ) → place + distance < to → IsAhead distance group (slice_index group place) (slice_index new (slice_index group place))

-- the same of all rows of the group
abbrev pub HasPut : ℕ → List ℕ → List ℕ → List ℕ → Type 0
HasPut distance group = HasPutBelow distance (length group) group

-- those of the rows 1 to n that have a partner, with it, ascending
abbrev pub partners_to : List ℕ → ℕ → List (ℕ × ℕ)
partners_to table n = map (λ i. (i, slice_index table i)) (filter (λ i. not (slice_index table i == 0)) (range_with_len 1 n))

-- the rows that have a partner, with it, ascending
abbrev pub with_partners : List ℕ → List (ℕ × ℕ)
with_partners table = partners_to table (length table - 1)
