-- Files as shelves in memory keep them: a list of names and bytes.
use Rattle.std.specs.Prelude.{◌≡◌, ◌<◌, ◌≤◌, length, ℕ, zero, suc, Bool, true, false, List, [], ◌∷◌, None, Some, nat_eq, slice_index_or, if◌then◌else◌}
use Rattle.std.specs.Cmp.Lexicographic.{pointwise}
use Rattle.ports.specs.Files.{Files}

abbrev pub File : Type 0
File = List ℕ × List ℕ

-- whether a file has this name
abbrev pub has_name : List ℕ → File → Bool
has_name name file = pointwise nat_eq name file.0

-- what each name holds: the bytes of the first file of that name
abbrev pub look_up : List File → Files
look_up [] = λ name. None
look_up (file ∷ files) = λ name. if has_name name file then Some file.1 else look_up files name

-- the first file of this name stands at this place
abbrev pub IsPlaceOf : List ℕ → List File → ℕ → Type 0
IsPlaceOf name [] place = ⊥
IsPlaceOf name (file ∷ files) zero = has_name name file ≡ true
IsPlaceOf name (file ∷ files) (suc place) = (has_name name file ≡ false) × IsPlaceOf name files place

-- the file at a place
abbrev pub file_at : List File → ℕ → File
file_at files place = slice_index_or files place ([], [])

-- the files that were there have their names
pub record KeepsNames (old new : List File) : Type 0 where
  pub no_fewer : length old ≤ length new
  pub same : (place : ℕ) → place < length old → (file_at new place).0 ≡ (file_at old place).0
