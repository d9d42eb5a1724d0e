-- Words for lists that lemmas speak by: membership by recursion, lists that are strictly sorted, and ascending lists of numbers.
use Rattle.std.specs.Prelude.{◌≡◌, ◌⊎◌, ◌<◌, ◌≤◌, ◌+◌, ℕ, List, [], ◌∷◌}
use Rattle.std.specs.declared.cmp.Ordering.{Ordering}
use Rattle.std.specs.declared.cmp.Ordering.TheVariants.{Less}

-- x stands in the list
abbrev pub Listed : {X : Type 0} → X → List X → Type 0
Listed x [] = ⊥
Listed x (y ∷ ys) = (x ≡ y) ⊎ Listed x ys

-- each element stands before each later one
abbrev pub Rises : {X : Type 0} → (X → X → Ordering) → List X → Type 0
Rises R [] = Unit {0}
Rises {X} R (x ∷ xs) = ((y : X) → Listed y xs → R x y ≡ Less) × Rises R xs

-- the numbers ascend from a up to below b
abbrev pub Ascends : ℕ → ℕ → List ℕ → Type 0
Ascends a b [] = Unit {0}
Ascends a b (x ∷ xs) = (a ≤ x) × (x < b) × Ascends (x + 1) b xs
