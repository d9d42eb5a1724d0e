-- The sets of one size among sets that are least.
use Rattle.std.proofs.Common.{◌≡◌, ℕ, List, eqb}
use Rattle.std.specs.List.{All, filter}
use Rattle.std.proofs.lemmas.Bool.{eqb-true}
use Rattle.col_set.specs.declared.target.Target.{Target}
use Rattle.col_set.specs.ColSet.{size}
use Rattle.col_set.specs.Evidence.{IsLeast}
use Rattle.col_set.specs.Lists.{Listed, Listed-filter_parts}
use Rattle.rel_base.proofs.States.{All-from}
use Rattle.least_sets.specs.Growth.{choices, IsLeastAmong}
use Rattle.least_sets.proofs.Evidence.{least_from}

pub sized_least : (n : ℕ) (ws : List ℕ) (t : Target) (k : ℕ) (found : List ℕ) → ((x : ℕ) → Listed x found → IsLeastAmong (choices n t) ws t x) → All (IsLeast n ws t) (filter (λ x. eqb (size x) k) found)
sized_least n ws t k found f = All-from (IsLeast n ws t) _ (λ x l. least_from n ws t x (f x (Listed-filter_parts (λ x. eqb (size x) k) x found l).0))

pub sized_sized : (k : ℕ) (found : List ℕ) → All (λ (x : ℕ). size x ≡ k) (filter (λ x. eqb (size x) k) found)
sized_sized k found = All-from (λ (x : ℕ). size x ≡ k) _ (λ x l. eqb-true (size x) k (Listed-filter_parts (λ x. eqb (size x) k) x found l).1)
