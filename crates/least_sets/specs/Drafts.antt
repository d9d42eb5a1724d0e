-- What many agree sets leave, while they come in one after another.
use Rattle.std.specs.Prelude.{if◌then◌else◌, ◌≡◌, ◌<◌, ◌≤◌, ℕ, Bool, not, ◌&&◌, ◌||◌, List, [], ◌∷◌, ◌++◌, map, length, slice_index_or}
use Rattle.std.specs.List.{list_any}
use Rattle.std.specs.Prelude.{Vec}
use Rattle.std.specs.declared.alloc.Global.{Global}
use Rattle.col_set.specs.declared.target.Target.TheVariants.{Col, RowId}
use Rattle.col_set.specs.ColSet.{Columns, has, subset, upto}
use Rattle.col_set.specs.Evidence.{refuted}
use Rattle.least_sets.specs.Growth.{choices, having, ListsLeast}

-- the agree sets that came in so far, and how many columns there are
pub record Drafted : Type 0 where
  pub width : ℕ
  pub agree_sets : List Columns

-- Whether a further agree set refutes what none of the list does: there is a target that it lacks, and none of the list that
-- lacks the target contains it.
unfoldable pub is_news : ℕ → List Columns → Columns → Bool
is_news n ws z = not (refuted ws RowId z) || list_any (λ a. not (has z a) && not (refuted ws (Col a) z)) (upto n)

-- the lists have what these agree sets leave for each target, in no order
pub record AreDrafted (n : ℕ) (ws : List Columns) (row_id : List Columns) (columns : List (List Columns)) : Type 0 where
  pub rows_least : ListsLeast (choices n RowId) ws RowId row_id
  pub count : length columns ≡ n
  pub each : (a : ℕ) → a < n → ListsLeast (choices n (Col a)) ws (Col a) (slice_index_or columns a [])

-- for each of n columns the list has those of the agree sets that have it
pub record AreFiled (n : ℕ) (ws : List Columns) (lists : List (List Columns)) : Type 0 where
  pub count : length lists ≡ n
  pub each : (a : ℕ) → a < n → slice_index_or lists a [] ≡ having a ws

-- the set is added at the end of the list of each of n columns that the places have
pub record AreAdded (n : ℕ) (z places : Columns) (old new : List (List Columns)) : Type 0 where
  pub count : length new ≡ length old
  pub each : (a : ℕ) → a < n → slice_index_or new a [] ≡ slice_index_or old a [] ++ (if has places a then z ∷ [] else [])

-- for each target of n columns the list contains just what those of the agree sets contain that lack the target
pub record AreOuter (n : ℕ) (ws : List Columns) (row_id : List Columns) (lists : List (List Columns)) : Type 0 where
  pub rows_tell : (x : Columns) → list_any (λ w. subset x w) row_id ≡ refuted ws RowId x
  pub count : length lists ≡ n
  pub each : (a : ℕ) → a < n → (x : Columns) → list_any (λ w. subset x w) (slice_index_or lists a []) ≡ refuted ws (Col a) x

-- the agree sets are filed by the columns that they have, and by the targets that they lack
pub record IsFiling (n : ℕ) (ws : List Columns) (by_column : List (List Columns)) (row_id : List Columns) (by_target : List (List Columns)) : Type 0 where
  pub bound : n ≤ 128
  pub filed : AreFiled n ws by_column
  pub outer : AreOuter n ws row_id by_target

-- the lists that vectors hold
abbrev pub lists_behind : List (Vec Columns Global) → List (List Columns)
lists_behind lists = map (λ list. list.items) lists
