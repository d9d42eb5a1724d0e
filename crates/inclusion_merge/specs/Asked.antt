-- What is asked of columns, and which inclusions are open.
use Rattle.std.specs.Prelude.{◌≡◌, ◌≢◌, ◌↔◌, ◌<◌, ℕ, Bool, true, List, [], length, map, Option, None, Some}
use Rattle.std.specs.Borrow.{Bor}
use Rattle.std.specs.List.{filter}
use Rattle.col_set.specs.Lists.{Listed}
use Rattle.rel_base.specs.Cells.{Cell}
use Rattle.rel_base.specs.Inclusion.{included, inclusions}
use Rattle.inclusion_merge.specs.Sharing.{list_at}

-- the cells of a column that is asked of, and none of one that is not
abbrev pub asked_cells : Option (Bor (List Cell)) → List Cell
asked_cells None = []
asked_cells (Some column) = column.now

-- the same of each column
abbrev pub cells_asked : List (Option (Bor (List Cell))) → List (List Cell)
cells_asked asked = map asked_cells asked

-- each cell of the first list that is not NULL, and that is picked, is one of the second
abbrev pub IsPickedPart : (Cell → Bool) → List Cell → List Cell → Type 0
IsPickedPart picked xs ys = (a : Cell) → Listed a xs → a ≢ [] → picked a ≡ true → Listed a ys

-- a table of answers says of each two columns whether all of the first one's picked cells are cells of the second
abbrev pub TellsPicked : (Cell → Bool) → List (List Cell) → (ℕ → ℕ → Bool) → Type 0
TellsPicked picked columns has = (c d : ℕ) → c < length columns → d < length columns → (has c d ≡ true) ↔ IsPickedPart picked (list_at columns c) (list_at columns d)

-- both columns of each pair are among so many
abbrev pub AreWithin : ℕ → List (ℕ × ℕ) → Type 0
AreWithin count pairs = (p : ℕ × ℕ) → Listed p pairs → (p.0 < count) × (p.1 < count)

-- pairs of different columns among which all inclusions are, in order
pub record AreOpen (columns : List (List Cell)) (pairs : List (ℕ × ℕ)) : Type 0 where
  pub within : AreWithin (length columns) pairs
  pub other : (p : ℕ × ℕ) → Listed p pairs → p.0 ≢ p.1
  pub all : filter (λ p. included columns p.0 p.1) pairs ≡ inclusions columns

-- both columns of each pair are asked of
pub record AreAsked (columns : List (List Cell)) (pairs : List (ℕ × ℕ)) (asked : List (List Cell)) : Type 0 where
  pub count : length asked ≡ length columns
  pub dependent : (p : ℕ × ℕ) → Listed p pairs → list_at asked p.0 ≡ list_at columns p.0
  pub referenced : (p : ℕ × ℕ) → Listed p pairs → list_at asked p.1 ≡ list_at columns p.1

-- each cell of the dependent column of each pair is picked
abbrev pub PicksDependents : List (List Cell) → List (ℕ × ℕ) → (Cell → Bool) → Type 0
PicksDependents columns pairs picked = (p : ℕ × ℕ) → Listed p pairs → (a : Cell) → Listed a (list_at columns p.0) → picked a ≡ true
