-- What a round of candidates finds.
use Rattle.std.specs.Prelude.{◌≡◌, ℕ, true, false, not, List, length}
use Rattle.std.specs.List.{filter, All}
use Rattle.col_set.specs.ColSet.{Columns, subset, all_sets}
use Rattle.col_set.specs.Lists.{Listed}
use Rattle.rel_base.specs.CodeTable.{CodeTable}
use Rattle.rel_base.specs.Shows.{code_agree_sets}
use Rattle.key_finder.specs.Keys.{told_apart}

-- an agree set of two live rows that contains x and lacks a column of s
pub record IsDisproof (t : CodeTable) (s x w : Columns) : Type 0 where
  pub known : Listed w (code_agree_sets t)
  pub inside : subset x w ≡ true
  pub lacks : subset s w ≡ false

-- it is such a set for some of these candidates
pub record IsNews (t : CodeTable) (s : Columns) (xs : List Columns) (w : Columns) : Type 0 where
  pub candidate : Columns
  pub listed : Listed candidate xs
  pub disproof : IsDisproof t s candidate w

-- no two live rows agree on x and not on all of s
abbrev pub IsUnique : CodeTable → Columns → Columns → Type 0
IsUnique t s x = told_apart (code_agree_sets t) s x ≡ false

abbrev pub AreUnique : CodeTable → Columns → List Columns → Type 0
AreUnique t s xs = All (IsUnique t s) xs

-- how many sets of n columns these agree sets leave
unfoldable pub standing : ℕ → List Columns → Columns → ℕ
standing n ws s = length (filter (λ x. not (told_apart ws s x)) (all_sets n))
