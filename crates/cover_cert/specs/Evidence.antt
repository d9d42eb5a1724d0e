-- Which agree sets a certificate needs.
use Rattle.std.specs.Prelude.{◌≡◌, if◌then◌else◌, nat_lt, ℕ, true, false, List}
use Rattle.col_set.specs.declared.target.Target.{Target}
use Rattle.col_set.specs.ColSet.{Columns, IsSubset, has}
use Rattle.col_set.specs.Lists.{Listed}
use Rattle.col_set.specs.Target.{has_target}
use Rattle.negative_cover.specs.declared.negative_cover.Witness.{Witness}

-- a column of the set is in some of these sets that lie inside it
pub record IsInPart (sets : List Columns) (set k : ℕ) : Type 0 where
  pub part : Columns
  pub listed : Listed part sets
  pub inside : IsSubset part set
  pub has_it : has part k ≡ true

-- some of these sets lie inside the set, and have all its columns together
pub record IsJoined (sets : List Columns) (set : Columns) : Type 0 where
  pub part : Columns
  pub listed : Listed part sets
  pub inside : IsSubset part set
  pub each : (k : ℕ) → has set k ≡ true → IsInPart sets set k

-- one of these witnesses agrees on all of a column set and not on a target
pub record LacksAround (kept : List Witness) (agree : Columns) (t : Target) : Type 0 where
  pub witness : Witness
  pub listed : Listed witness kept
  pub around : IsSubset agree witness.agree
  pub lacks : has_target witness.agree t ≡ false

-- for each target that the column set lacks there is one
abbrev pub IsTold : List Witness → Columns → Type 0
IsTold kept agree = (t : Target) → has_target agree t ≡ false → LacksAround kept agree t

-- the rows of a witness, the one with the lesser number first
abbrev pub ordered : Witness → ℕ × ℕ
ordered w = if nat_lt w.i w.j then (w.i, w.j) else (w.j, w.i)
