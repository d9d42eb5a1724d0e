-- How the rows of a group are compared: each with the first that a further column does not tell from it.
use Rattle.std.specs.Prelude.{◌≡◌, ◌≢◌, ◌<◌, ◌≤◌, ◌==◌, ℕ, true, false, List, Option, Some, None, slice_index}
use Rattle.std.specs.List.{filter}
use Rattle.col_set.specs.declared.target.Target.{Target}
use Rattle.col_set.specs.ColSet.{Columns, with}
use Rattle.col_set.specs.Lists.{Listed}
use Rattle.col_set.specs.Target.{has_target}
use Rattle.rel_base.specs.CodeTable.{CodeTable, code_at}
use Rattle.rel_base.specs.Shows.{code_agree}

-- the code of a row in the further column, if there is one
abbrev pub key : CodeTable → Option ℕ → ℕ → ℕ
key s None i = 0
key s (Some b) i = code_at s i b

-- the columns and the further one
abbrev pub plus : Columns → Option ℕ → Columns
plus x None = x
plus x (Some b) = with x b

-- the first of these rows with a key, or 0
abbrev pub first_with : CodeTable → Option ℕ → List ℕ → ℕ → ℕ
first_with s by rows c = slice_index (filter (λ i. key s by i == c) rows) 0

-- each of these rows from a number on agrees on the target with the first that has its key, if that is another one
pub record IsUniform (s : CodeTable) (by : Option ℕ) (t : Target) (from : ℕ) (rows : List ℕ) : Type 0 where
  pub each : (j : ℕ) → Listed j rows → from ≤ j → first_with s by rows (key s by j) ≢ j
      → has_target (code_agree s (first_with s by rows (key s by j)) j) t ≡ true

-- two of these rows that have one key and differ on the target, the smaller number first
pub record IsApart (s : CodeTable) (by : Option ℕ) (t : Target) (rows : List ℕ) (i j : ℕ) : Type 0 where
  pub first : Listed i rows
  pub second : Listed j rows
  pub rising : i < j
  pub same : key s by i ≡ key s by j
  pub differ : has_target (code_agree s i j) t ≡ false

-- what the comparisons of these rows find
abbrev pub IsCompared : CodeTable → Option ℕ → Target → ℕ → List ℕ → Option (ℕ × ℕ) → Type 0
IsCompared s by t from rows None = IsUniform s by t from rows
IsCompared s by t from rows (Some pair) = IsApart s by t rows pair.0 pair.1

-- each slot has the first of these rows with its key
abbrev pub IsMarked : CodeTable → Option ℕ → List ℕ → List ℕ → Type 0
IsMarked s by rows slots = (c : ℕ) → slice_index slots c ≡ first_with s by rows c

-- each slot is clear that none of these rows has as its key
abbrev pub IsClearBut : CodeTable → Option ℕ → List ℕ → List ℕ → Type 0
IsClearBut s by rows slots = (c : ℕ) → first_with s by rows c ≡ 0 → slice_index slots c ≡ 0

abbrev pub IsClear : List ℕ → Type 0
IsClear slots = (c : ℕ) → slice_index slots c ≡ 0
