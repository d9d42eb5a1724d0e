-- How candidates grow past one more agree set, over lists of column sets.
use Rattle.std.specs.Prelude.{if◌then◌else◌, ◌≡◌, ℕ, ◌==◌, Bool, true, false, not, ◌&&◌, List, [], map}
use Rattle.std.specs.List.{filter, list_any, flat_map}
use Rattle.col_set.specs.declared.target.Target.{Target}
use Rattle.col_set.specs.declared.target.Target.TheVariants.{Col, RowId}
use Rattle.col_set.specs.ColSet.{Columns, IsSubset, has, with, without, minus, size, subset, upto, all}
use Rattle.col_set.specs.Evidence.{refuted}
use Rattle.col_set.specs.Lists.{Listed}

-- the first n columns but the target
abbrev pub choices : ℕ → Target → Columns
choices n (Col a) = without (all n) a
choices n RowId = all n

-- x is no set that an agree set of the list refutes, each proper subset of it is, and its columns are among these
pub record IsLeastAmong (columns : Columns) (ws : List Columns) (t : Target) (x : Columns) : Type 0 where
  pub within : IsSubset x columns
  pub stands : refuted ws t x ≡ false
  pub smallest : (y : Columns) → IsSubset y x → refuted ws t y ≡ false → y ≡ x

-- the list has these sets and no others
pub record ListsLeast (columns : Columns) (ws : List Columns) (t : Target) (xs : List Columns) : Type 0 where
  pub each : (x : Columns) → Listed x xs → IsLeastAmong columns ws t x
  pub every : (x : Columns) → IsLeastAmong columns ws t x → Listed x xs

-- whether x has exactly one column outside z
abbrev pub one_outside : Columns → Columns → Bool
one_outside z x = size (minus x z) == 1

-- the sets inside z, the others, and those with one column outside z
abbrev pub inside : Columns → List Columns → List Columns
inside z xs = filter (λ x. subset x z) xs

abbrev pub outside : Columns → List Columns → List Columns
outside z xs = filter (λ x. not (subset x z)) xs

abbrev pub near : Columns → List Columns → List Columns
near z xs = filter (one_outside z) xs

-- the sets that have the column
abbrev pub having : ℕ → List Columns → List Columns
having k xs = filter (λ x. has x k) xs

-- those of the sets that contain none of the blockers
abbrev pub unblocked : List Columns → List Columns → List Columns
unblocked blockers xs = filter (λ x. not (list_any (λ y. subset y x) blockers)) xs

-- each set with this column more, where no set near by lies inside it
abbrev pub grown_by : List Columns → List Columns → ℕ → List Columns
grown_by ins nears k = unblocked (having k nears) (map (λ c. with c k) ins)

-- each set with one column more, outside z and among the columns, where no set near by lies inside it
abbrev pub grown : ℕ → Columns → Columns → List Columns → List Columns → List Columns
grown n columns z ins nears = flat_map (λ k. if has columns k && not (has z k) then grown_by ins nears k else []) (upto n)

-- The sets are the least ones against the rest that lie inside a withdrawn agree set which lacks the target.
pub record IsExplored (columns : Columns) (rest gone : List Columns) (t : Target) (xs : List Columns) : Type 0 where
  pub each : (x : Columns) → Listed x xs → IsLeastAmong columns rest t x × (refuted gone t x ≡ true)
  pub every : (x : Columns) → IsLeastAmong columns rest t x → refuted gone t x ≡ true → Listed x xs
