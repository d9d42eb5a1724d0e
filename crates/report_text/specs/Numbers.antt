-- The text of a number, in front of other bytes.
use Rattle.std.specs.Prelude.{◌≡◌, ℕ, ◌≤◌, List, length, take, decimal}

pub record IsNumberText (number count : ℕ) (text : List ℕ) : Type 0 where
  pub counted : count ≡ length (decimal number)
  pub short : count ≤ 3
  pub digits : take count text ≡ decimal number
