-- What is kept while neighbours are looked for: the last row of each code, and some of the pairs.
use Rattle.std.specs.Prelude.{◌≡◌, ◌≢◌, ℕ, List, slice_index}
use Rattle.std.specs.List.{All, Contains}

-- each of these pairs is one of those
abbrev pub AreAmong : List (ℕ × ℕ) → List (ℕ × ℕ) → Type 0
AreAmong those pairs = All (λ p. Contains those p) pairs

-- the number stands at the code, and what stood at other codes still does
pub record IsNoted (old new : List ℕ) (code number : ℕ) : Type 0 where
  pub here : slice_index new code ≡ number
  pub other : (c : ℕ) → c ≢ code → slice_index new c ≡ slice_index old c
