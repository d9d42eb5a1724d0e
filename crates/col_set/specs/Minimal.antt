-- Minimal column sets: those that pass a test that none of their proper subsets passes.
use Rattle.std.specs.Prelude.{◌≡◌, ℕ, ◌==◌, Bool, true, not, ◌&&◌}
use Rattle.std.specs.List.{list_all}
use Rattle.col_set.specs.ColSet.{Columns, IsSubset, subset, all_sets}

-- whether x has every column of y, and one more
unfoldable pub proper_subset : Columns → Columns → Bool
proper_subset y x = subset y x && not (y == x)

-- x passes, and no proper subset of it among the sets of n columns does
unfoldable pub is_minimal : ℕ → (Columns → Bool) → Columns → Bool
is_minimal n p x = p x && list_all (λ y. not (proper_subset y x && p y)) (all_sets n)

-- the same as a fact, over all sets
pub record IsMinimal (p : Columns → Bool) (x : Columns) : Type 0 where
  pub passes : p x ≡ true
  pub smallest : (y : Columns) → IsSubset y x → p y ≡ true → y ≡ x
