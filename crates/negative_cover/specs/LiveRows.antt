-- Live rows of a snapshot.
use Rattle.std.specs.Prelude.{◌≡◌, ◌<◌, ◌≤◌, ℕ, true, List}
use Rattle.std.specs.List.{All}
use Rattle.col_set.specs.Lists.{Listed}
use Rattle.rel_base.specs.CodeTable.{CodeTable, live_at}

-- live rows, and among them each with a number from one on and below another one
pub record AreLiveBetween (s : CodeTable) (from to : ℕ) (numbers : List ℕ) : Type 0 where
  pub below : All (λ i. (0 < i) × (i < s.to)) numbers
  pub live : All (λ i. live_at s i ≡ true) numbers
  pub every : (i : ℕ) → from ≤ i → i < to → live_at s i ≡ true → Listed i numbers
