-- Which lists of values are parts of which.
use Rattle.std.specs.Prelude.{◌≡◌, ◌↔◌, ◌<◌, ◌≤◌, ℕ, Bool, true, false, List, [], ◌∷◌, length, map, slice_index_or, ⊤, Vec, Option, None, Some}
use Rattle.std.specs.declared.alloc.Global.{Global}
use Rattle.std.specs.Borrow.{Bor}
use Rattle.std.specs.Ordering.{is_gt}
use Rattle.col_set.specs.Lists.{Listed, Rises}
use Rattle.rel_base.specs.Cells.{Cell}
use Rattle.inclusion_merge.specs.Values.{value_cmp}

-- the list at a place
abbrev pub list_at : List (List Cell) → ℕ → List Cell
list_at lists place = slice_index_or lists place []

-- the lists behind references
abbrev pub lists_of : List (Bor (List Cell)) → List (List Cell)
lists_of slices = map (λ slice. slice.now) slices

-- the lists of values that vectors hold
abbrev pub values_behind : List (Vec Cell Global) → List (List Cell)
values_behind lists = map (λ list. list.items) lists

-- each list has its values in order
abbrev pub AllRise : List (List Cell) → Type 0
AllRise lists = (place : ℕ) → place < length lists → Rises value_cmp (list_at lists place)

-- each value of the first list is one of the second
abbrev pub IsPart : List Cell → List Cell → Type 0
IsPart xs ys = (a : Cell) → Listed a xs → Listed a ys

-- a table of answers says of each two lists whether the first is a part of the second
abbrev pub TellsParts : List (List Cell) → (ℕ → ℕ → Bool) → Type 0
TellsParts lists has = (c d : ℕ) → c < length lists → d < length lists → (has c d ≡ true) ↔ IsPart (list_at lists c) (list_at lists d)

-- the first value of a list is this one
abbrev pub BeginsWith : Cell → List Cell → Type 0
BeginsWith value [] = ⊥
BeginsWith value (first ∷ rest) = first ≡ value

-- the first value of a list, if there is one, is not below this one
abbrev pub IsNotAbove : Cell → List Cell → Type 0
IsNotAbove value [] = ⊤
IsNotAbove value (first ∷ rest) = is_gt (value_cmp value first) ≡ false

-- of the first so many lists one begins with this value, and none with one below it
pub record IsLeastFirst (value : Cell) (lists : List (List Cell)) (count : ℕ) : Type 0 where
  pub place : ℕ
  pub within : place < count
  pub begins : BeginsWith value (list_at lists place)
  pub least : (other : ℕ) → other < count → IsNotAbove value (list_at lists other)

-- nothing is left of the first so many lists
abbrev pub AllEnded : List (List Cell) → ℕ → Type 0
AllEnded lists count = (place : ℕ) → place < count → list_at lists place ≡ []

-- what is behind a reference is the first value of a list
abbrev pub IsFirstOf : Option (Bor Cell) → List Cell → Type 0
IsFirstOf None [] = ⊤
IsFirstOf None (first ∷ rest) = ⊥
IsFirstOf (Some x) [] = ⊥
IsFirstOf (Some x) (first ∷ rest) = first ≡ x.now

-- the first so many lists are marked where they begin with this value, and no others are
pub record Marked (shared : ℕ → Bool) (value : Cell) (lists : List (List Cell)) (count : ℕ) : Type 0 where
  pub done : (k : ℕ) → k < count → (shared k ≡ true) ↔ BeginsWith value (list_at lists k)
  pub ahead : (k : ℕ) → count ≤ k → shared k ≡ false

-- of the first so many lists, those are marked that begin with the least of their first values
pub record SharesLeast (shared : ℕ → Bool) (lists : List (List Cell)) (count : ℕ) : Type 0 where
  pub value : Cell
  pub first : IsLeastFirst value lists count
  pub marked : Marked shared value lists count

-- the same with the least value at hand, or nothing is left of these lists and none is marked
abbrev pub LeastSoFar : Option (Bor Cell) → (ℕ → Bool) → List (List Cell) → ℕ → Type 0
LeastSoFar None shared lists count = AllEnded lists count × ((k : ℕ) → shared k ≡ false)
LeastSoFar (Some v) shared lists count = IsLeastFirst v.now lists count × Marked shared v.now lists count
