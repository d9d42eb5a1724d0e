-- The files of a shelf: what each name holds.
use Rattle.std.specs.Prelude.{◌≡◌, ◌≢◌, ℕ, Bool, true, false, List, [], ◌++◌, Option, None, Some, nat_eq, unwrap_or, if◌then◌else◌}
use Rattle.std.specs.Option.{option_map}
use Rattle.std.specs.Cmp.Lexicographic.{pointwise}

-- the bytes that a name holds, or none where there is no file of that name
abbrev pub Files : Type 0
Files = List ℕ → Option (List ℕ)

-- a file that is not there counts as empty
abbrev pub bytes_of : Files → List ℕ → List ℕ
bytes_of files name = unwrap_or (files name) []

-- these files, but that this name holds these bytes
abbrev pub with_file : List ℕ → List ℕ → Files → Files
with_file name bytes files = λ other. if pointwise nat_eq other name then Some bytes else files other

-- these files, but that the one of this name has a piece more at its end
abbrev pub with_more : List ℕ → List ℕ → Files → Files
with_more name piece files = λ other. if pointwise nat_eq other name then option_map (λ held. held ++ piece) (files other) else files other

-- what stays the same where one file changes: each other name holds what it held, as far as it is told
abbrev pub OthersKept : List ℕ → Option Files → Option Files → Type 0
OthersKept name None now = now ≡ None
OthersKept name (Some before) None = ⊥
OthersKept name (Some before) (Some now) = (other : List ℕ) → other ≢ name → now other ≡ before other

-- what is open on a shelf: nothing, a file for reading with what is left of it where that is told, or a file that was created
pub data Access : Type 0 where
  Nothing : Access
  ForReading : List ℕ → Option (List ℕ) → Access
  ForWriting : List ℕ → Access

abbrev pub is_reading : Access → Bool
is_reading Nothing = false
is_reading (ForReading name left) = true
is_reading (ForWriting name) = false

abbrev pub is_writing : Access → Bool
is_writing Nothing = false
is_writing (ForReading name left) = false
is_writing (ForWriting name) = true

abbrev pub is_some_open : Access → Bool
is_some_open Nothing = false
is_some_open (ForReading name left) = true
is_some_open (ForWriting name) = true

-- the name of the file that is open
abbrev pub name_of : Access → List ℕ
name_of Nothing = []
name_of (ForReading name left) = name
name_of (ForWriting name) = name

-- what is left of the file that is open for reading
abbrev pub left_of : Access → Option (List ℕ)
left_of Nothing = None
left_of (ForReading name left) = left
left_of (ForWriting name) = None
