-- Counts of faults.
use Rattle.std.specs.Prelude.{◌≡◌, ℕ, ◌-◌, ◌^◌, ◌≤◌, Bool, true, false, List, Option, Some}

-- a count that has come to the last value of its type stands still
abbrev pub last_count : ℕ
last_count = 2 ^ 64 - 1

-- A count rose, or stands at its last value. It never falls. A single call raises it by one at most, which the traits say beside this; a file that is read
-- whole may fail twice, at a read and at the close.
pub record Rose (before now : ℕ) : Type 0 where
  pub not_fallen : before ≤ now
  pub risen : now ≡ before → now ≡ last_count

-- a call that failed counted a fault, and any other counted none
abbrev pub Counts : Bool → ℕ → ℕ → Type 0
Counts true before now = Rose before now
Counts false before now = now ≡ before

-- A shelf counted a fault of a call that worked on this name. The state has a count of faults, and the name of its last counted call.
pub record RoseAt {S : Type 0} (name : List ℕ) (faults : S → ℕ) (last : S → Option (List ℕ)) (old new : S) : Type 0 where
  pub count : Rose (faults old) (faults new)
  pub name_is : last new ≡ Some name

-- it counted no fault
pub record SameFaults {S : Type 0} (faults : S → ℕ) (last : S → Option (List ℕ)) (old new : S) : Type 0 where
  pub count : faults new ≡ faults old
  pub name_is : last new ≡ last old

-- a call that failed counted a fault at this name, and any other counted none
abbrev pub CountsAt : {S : Type 0} → Bool → List ℕ → (S → ℕ) → (S → Option (List ℕ)) → S → S → Type 0
CountsAt true name faults last old new = RoseAt name faults last old new
CountsAt false name faults last old new = SameFaults faults last old new
