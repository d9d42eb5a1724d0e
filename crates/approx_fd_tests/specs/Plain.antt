-- Lists of rows that leave out some of them, tried one after another.
use Rattle.std.specs.Prelude.{ℕ, Bool, if◌then◌else◌, List, [], ◌∷◌, ◌++◌, length, max}

-- the length of the longest list that passes, of those that begin with what is kept and go on with some of the rest, or 0
unfoldable pub most_of : (List ℕ → Bool) → List ℕ → List ℕ → ℕ
most_of passes kept [] = if passes kept then length kept else 0
most_of passes kept (row ∷ rows) = max (most_of passes (kept ++ row ∷ []) rows) (most_of passes kept rows)
