-- A key of a table by agree sets, as a fact.
use Rattle.std.specs.Prelude.{◌≡◌, false, List}
use Rattle.col_set.specs.ColSet.{Columns, IsSubset}
use Rattle.key_finder.specs.Keys.{told_apart}

-- x lies inside s, no agree set that lacks a column of s contains it, and that is so of no proper subset
pub record IsKeyWithin (ws : List Columns) (s x : Columns) : Type 0 where
  pub inside : IsSubset x s
  pub stands : told_apart ws s x ≡ false
  pub smallest : (y : Columns) → IsSubset y x → told_apart ws s y ≡ false → y ≡ x
