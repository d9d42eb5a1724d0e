-- What a dictionary is seen as: how it reads NULL, and its cells by their codes.
use Rattle.std.specs.Prelude.{◌≡◌, ◌≤◌, ◌↔◌, ℕ, Bool, false, not, ◌||◌, List, [], ◌∷◌, ◌++◌, Some, length, slice_get, if◌then◌else◌}
use Rattle.std.specs.List.{list_any}
use Rattle.rel_base.specs.declared.nulls.Nulls.{Nulls}
use Rattle.rel_base.specs.declared.nulls.Nulls.TheVariants.{Equal, Distinct}
use Rattle.rel_base.specs.Cells.{Cell}
use Rattle.rel_base.specs.Agreement.{same_cell, Agrees}

-- The cell of code k stands at place k.
pub record Coding : Type 0 where
  pub nulls : Nulls
  pub cells : List Cell

-- whether a cell is given a fresh code each time: NULL is, where NULL agrees with nothing
abbrev pub is_fresh : Nulls → Cell → Bool
is_fresh Equal c = false
is_fresh Distinct c = same_cell c []

-- whether a cell would be given a code that no cell has yet
abbrev pub is_new : Coding → Cell → Bool
is_new d c = is_fresh d.nulls c || not (list_any (same_cell c) d.cells)

-- the dictionary after a cell was coded: a new cell goes last
abbrev pub coded : Coding → Cell → Coding
coded d c = record { nulls = d.nulls; cells = if is_new d c then d.cells ++ c ∷ [] else d.cells }

-- Equal cells have equal codes, but for those that are given a fresh code each time, and there are at most 2 ^ 32 - 1 codes.
pub record IsCoding (d : Coding) : Type 0 where
  pub once : (i j : ℕ) (c : Cell) → slice_get d.cells i ≡ Some c → slice_get d.cells j ≡ Some c → is_fresh d.nulls c ≡ false → i ≡ j
  pub short : length d.cells ≤ 4294967295

-- A code that a cell was given before is k exactly where that cell agrees with c.
abbrev pub IsCodeOf : Coding → Cell → ℕ → Type 0
IsCodeOf d c k = (i : ℕ) (a : Cell) → slice_get d.cells i ≡ Some a → (i ≡ k) ↔ Agrees d.nulls a c
