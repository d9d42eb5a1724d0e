-- How a shelf of which calls may fail shows its fields.
use Rattle.std.specs.Prelude.{◌≡◌, ◌==◌, Bool, false, ◌+◌, ◌<◌, ◌≤◌, ℕ, List, length, drop, slice_set, Option, None, Some, ⊤, vec_len, vec_capacity}
use Rattle.std.specs.List.{All}
use Rattle.ports.specs.Files.{Access, Nothing as NothingOpen, ForReading, ForWriting}
use Rattle.ports.specs.Lists.{File, IsPlaceOf, file_at}
use Rattle.ports.specs.Memory.{Room, empty_room}
use Rattle.ports.specs.Shelves.{MemFiles}
use Rattle.ports.specs.declared.mem_shelf.Open.{Open}
use Rattle.ports.specs.declared.mem_shelf.Open.TheVariants.{Nothing, Reading, Writing}
use Rattle.ports.specs.declared.mem_shelf.Last.{Last}
use Rattle.ports.specs.declared.mem_shelf.Last.TheVariants.{NoName, Named, At}
use Rattle.ports.specs.declared.mem_shelf.MemShelf.TheInside.{Inside}

-- whether the file at this place is being written
abbrev pub is_written : Open → ℕ → Bool
is_written Nothing place = false
is_written (Reading read) place = false
is_written (Writing written) place = written == place

-- the files, of which the one that is being written holds what was written so far
abbrev pub told : List File → Open → List ℕ → List File
told files Nothing written = files
told files (Reading place) written = files
told files (Writing place) written = slice_set files place ((file_at files place).0, written)

-- what is open, where so many bytes of it were read
abbrev pub opened_of : List File → Open → ℕ → Access
opened_of files Nothing at = NothingOpen
opened_of files (Reading place) at = ForReading (file_at files place).0 (Some (drop at (file_at files place).1))
opened_of files (Writing place) at = ForWriting (file_at files place).0

-- the name that a counted call worked on
abbrev pub name_of_last : List File → Last → Option (List ℕ)
name_of_last files NoName = None
name_of_last files (Named name) = Some name
name_of_last files (At place) = Some (file_at files place).0

abbrev pub seen : Inside → MemFiles
seen s = record {
  files = told s.files.items s.«open» s.buffer.held;
  opened = opened_of s.files.items s.«open» s.at;
  opens = s.opens;
  taken = s.taken;
  blanks = vec_len s.blanks;
  room = s.room;
  largest = s.largest;
  course = s.calls;
  read_faults = s.reads.count;
  read_last = name_of_last s.files.items s.reads.last;
  write_faults = s.writes.count;
  write_last = name_of_last s.files.items s.writes.last;
}

-- what is open is the first file of its name, no more of it was read than there is, and a buffer for what is written has the right room
abbrev pub IsOpen : List File → Open → ℕ → Room → ℕ → Type 0
IsOpen files Nothing at buffer room = ⊤
IsOpen files (Reading place) at buffer room = IsPlaceOf (file_at files place).0 files place × (at ≤ length (file_at files place).1)
IsOpen files (Writing place) at buffer room = IsPlaceOf (file_at files place).0 files place × (buffer.room ≡ room)

-- a place stands for a file
abbrev pub IsNamed : List File → Last → Type 0
IsNamed files NoName = ⊤
IsNamed files (Named name) = ⊤
IsNamed files (At place) = place < length files

pub record IsInside (s : Inside) : Type 0 where
  pub opened : IsOpen s.files.items s.«open» s.at s.buffer s.room
  pub read_last : IsNamed s.files.items s.reads.last
  pub write_last : IsNamed s.files.items s.writes.last
  pub blank : All (λ buffer. buffer ≡ empty_room s.room) s.blanks.items
  pub spare : vec_len s.files + vec_len s.blanks ≤ vec_capacity s.files
  pub largest : 0 < s.largest
