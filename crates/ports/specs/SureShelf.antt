-- How a shelf that never fails at a read shows its fields.
use Rattle.std.specs.Prelude.{◌≤◌, ℕ, List, length, drop, Option, None, Some, ⊤}
use Rattle.ports.specs.Files.{Access, Nothing, ForReading, bytes_of}
use Rattle.ports.specs.Lists.{File, look_up}
use Rattle.ports.specs.Shelves.{SureFiles}
use Rattle.ports.specs.declared.sure_shelf.SureShelf.TheInside.{Inside}

-- what is open, where so many bytes of it were read
abbrev pub opened_of : List File → ℕ → Option (List ℕ) → Access
opened_of files at None = Nothing
opened_of files at (Some name) = ForReading name (Some (drop at (bytes_of (look_up files) name)))

abbrev pub seen : Inside → SureFiles
seen s = record {
  files = s.files.items;
  opened = opened_of s.files.items s.at s.«open»;
  opens = s.opens;
  taken = s.taken;
  write_faults = s.write_faults;
  write_last = s.write_last;
}

-- no more was read than there is
abbrev pub IsRead : List File → ℕ → Option (List ℕ) → Type 0
IsRead files at None = ⊤
IsRead files at (Some name) = at ≤ length (bytes_of (look_up files) name)

abbrev pub IsInside : Inside → Type 0
IsInside s = IsRead s.files.items s.at s.«open»
