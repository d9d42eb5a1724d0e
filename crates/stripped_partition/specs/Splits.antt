-- The parts of a group of rows by a code of each row.
use Rattle.std.specs.Prelude.{◌≡◌, ◌==◌, ◌+◌, ◌-◌, ◌^◌, ◌<◌, ◌≤◌, ℕ, nat_lt, nat_le, not, ◌&&◌, List, [], ◌∷◌, ◌++◌, length, map, replicate, slice_index, slice_set, zip, flat_map, vec_len}
use Rattle.std.specs.List.{filter, concat}
use Rattle.rel_base.specs.declared.limits.TheConstants.{MOST_ROWS}
use Rattle.stripped_partition.specs.Groups.{cut, ends_of, IsFlat}
use Rattle.stripped_partition.specs.declared.groups.Groups.{Groups}

-- each number once, first seen first
unfoldable pub firsts : List ℕ → List ℕ
firsts [] = []
firsts (x ∷ xs) = x ∷ filter (λ y. not (x == y)) (firsts xs)

-- the rows that stand with a code in these pairs of a row and its code
unfoldable pub rows_with : List (ℕ × ℕ) → ℕ → List ℕ
rows_with entries c = map (λ e. e.0) (filter (λ e. e.1 == c) entries)

-- the codes below a bound that stand with two rows or more
unfoldable pub repeated_codes : ℕ → List (ℕ × ℕ) → List ℕ
repeated_codes bound entries = filter (λ c. nat_lt c bound && nat_le 2 (length (rows_with entries c))) (firsts (map (λ e. e.1) entries))

-- the rows of each of those codes
unfoldable pub parts : ℕ → List (ℕ × ℕ) → List (List ℕ)
parts bound entries = map (rows_with entries) (repeated_codes bound entries)

-- A row is put into the part of its code. A slot holds how many rows have its code, until the first of them makes room for
-- them all; then it holds 2 ^ 31 and the place of the next one.
pub record Places (row code : ℕ) (rows ends slots rows_after ends_after slots_after : List ℕ) : Type 0 where
  pub outside : length slots ≤ code → (rows_after ≡ rows) × (ends_after ≡ ends) × (slots_after ≡ slots)
  pub alone : slice_index slots code < 2 → (rows_after ≡ rows) × (ends_after ≡ ends) × (slots_after ≡ slots)
  pub opened : code < length slots → 2 ≤ slice_index slots code → slice_index slots code < 2 ^ 31
      → (rows_after ≡ rows ++ replicate (slice_index slots code) row) × (ends_after ≡ ends ++ (length rows + slice_index slots code) ∷ [])
      × (slots_after ≡ slice_set slots code (2 ^ 31 + length rows + 1))
  pub filled : code < length slots → 2 ^ 31 ≤ slice_index slots code
      → (rows_after ≡ slice_set rows (slice_index slots code - 2 ^ 31) row) × (ends_after ≡ ends)
      × (slots_after ≡ slice_set slots code (slice_index slots code + 1))

-- the parts of a group of rows are added, where these are the rows' codes and only codes below a bound make parts
pub record AddsParts (bound : ℕ) (rows codes : List ℕ) (before after : Groups) : Type 0 where
  pub laid : after.rows.items ≡ before.rows.items ++ concat (parts bound (zip rows codes))
  pub cuts : after.ends.items ≡ before.ends.items ++ ends_of (vec_len before.rows) (parts bound (zip rows codes))

-- these groups and the rows of one more are no more than a relation may have, each of its rows has a code, and all slots are clear
pub record IsReady (groups : Groups) (slots rows codes : List ℕ) : Type 0 where
  pub short : vec_len groups.rows + length rows ≤ MOST_ROWS
  pub coded : length codes ≡ length rows
  pub clear : slots ≡ replicate (length slots) 0

-- these groups are the parts of each of the groups into which these rows are cut
abbrev pub AreSplit : ℕ → List ℕ → List ℕ → List ℕ → Groups → Type 0
AreSplit bound rows ends codes groups = IsFlat groups.rows.items groups.ends.items (flat_map (parts bound) (cut 0 (zip rows codes) ends))
