-- Bytes that are left in a source and bytes that a sink holds, where the type tells them: `None` where it does not.
use Rattle.std.specs.Prelude.{◌≡◌, ℕ, List, [], ◌++◌, Option, None, Some, ⊤}
use Rattle.std.specs.Option.{option_map}

-- what was left begins with this piece, and the rest is left now
abbrev pub Moves : Option (List ℕ) → Option (List ℕ) → List ℕ → Type 0
Moves before now piece = before ≡ option_map (λ rest. piece ++ rest) now

-- what is held now is what was held, and then this piece
abbrev pub Gains : Option (List ℕ) → Option (List ℕ) → List ℕ → Type 0
Gains before now piece = now ≡ option_map (λ held. held ++ piece) before

-- nothing is left, as far as it is told
abbrev pub IsUsedUp : Option (List ℕ) → Type 0
IsUsedUp None = ⊤
IsUsedUp (Some left) = left ≡ []
