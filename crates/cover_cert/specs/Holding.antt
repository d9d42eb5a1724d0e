-- What a search for claims that fail has at hand.
use Rattle.std.specs.Prelude.{◌≡◌, ◌<◌, ◌≤◌, ◌^◌, ℕ, true, false, List, length, slice_index_or}
use Rattle.std.specs.List.{Contains}
use Rattle.col_set.specs.Target.{IsColumnTarget}
use Rattle.rel_base.specs.CodeTable.{CodeTable}
use Rattle.rel_base.specs.Shows.{holds_in}
use Rattle.cover_cert.specs.declared.line.Claim.{Claim}

-- it speaks of the first n columns
pub record IsWithin (n : ℕ) (claim : Claim) : Type 0 where
  pub left : claim.left < 2 ^ n
  pub target : IsColumnTarget n claim.target

-- each place below n stands among the visits, behind some rank
pub record AreVisits (n : ℕ) (visits : List (ℕ × ℕ)) : Type 0 where
  pub every : (place : ℕ) → place < n → (rank : ℕ) × Contains visits (rank, place)

-- the claim at a place holds, or fails
abbrev pub HoldsAt : CodeTable → List Claim → ℕ → Type 0
HoldsAt s claims place = (d : Claim) → (let claim : Claim = slice_index_or claims place d in holds_in s claim.left claim.target ≡ true)

abbrev pub FailsAt : CodeTable → List Claim → ℕ → Type 0
FailsAt s claims place = (d : Claim) → place < length claims → (let claim : Claim = slice_index_or claims place d in holds_in s claim.left claim.target ≡ false)

-- the claims before a place hold, and the one there fails, if there is one
pub record IsLeastFailing (s : CodeTable) (claims : List Claim) (place : ℕ) : Type 0 where
  pub bound : place ≤ length claims
  pub fails : FailsAt s claims place
  pub before : (other : ℕ) → other < place → HoldsAt s claims other

-- the same of claims that are visited
pub record IsLeastOf (s : CodeTable) (claims : List Claim) (visits : List (ℕ × ℕ)) (place : ℕ) : Type 0 where
  pub bound : place ≤ length claims
  pub fails : FailsAt s claims place
  pub before : (rank other : ℕ) → Contains visits (rank, other) → other < place → HoldsAt s claims other
