-- Pairs of rows that agree on a column, by how many rows of the same code stand between them.
use Rattle.std.specs.Prelude.{◌≡◌, ◌<◌, ◌+◌, ◌==◌, ◌&&◌, ◌↔◌, ℕ, nat_lt, List, length}
use Rattle.std.specs.List.{filter, All, AllPairs, Contains}
use Rattle.rel_base.specs.CodeTable.{CodeTable, code_at}
use Rattle.rel_base.specs.Shows.{live_numbers}

-- the live rows between i and j that have the code of i in a column
unfoldable pub between : CodeTable → ℕ → ℕ → ℕ → List ℕ
between s c i j = filter (λ k. (nat_lt i k && nat_lt k j) && (code_at s i c == code_at s k c)) (live_numbers s)

-- i and j are live rows of one code, i the smaller, with `distance - 1` live rows of that code between them
pub record IsPair (s : CodeTable) (c distance i j : ℕ) : Type 0 where
  pub first : Contains (live_numbers s) i
  pub second : Contains (live_numbers s) j
  pub before : i < j
  pub same : code_at s i c ≡ code_at s j c
  pub apart : length (between s c i j) + 1 ≡ distance

-- these are all such pairs and no others, by the first row
pub record IsWindow (s : CodeTable) (c distance : ℕ) (pairs : List (ℕ × ℕ)) : Type 0 where
  pub order : AllPairs (λ p q. p.0 < q.0) pairs
  pub each : (i j : ℕ) → Contains pairs (i, j) ↔ IsPair s c distance i j

-- each is of two live rows of one code with none of that code between them
abbrev pub AreNeighbours : CodeTable → ℕ → List (ℕ × ℕ) → Type 0
AreNeighbours s c pairs = All (λ p. IsPair s c 1 p.0 p.1) pairs
