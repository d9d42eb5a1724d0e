-- What the shelves in memory are seen as.
use Rattle.std.specs.Prelude.{◌≡◌, ℕ, ◌-◌, Bool, List, [], length, min, Option, None, Some, replicate, unwrap_or}
use Rattle.ports.specs.declared.kinds.Kind.{Kind}
use Rattle.ports.specs.Files.{Files, Access, Nothing, bytes_of, left_of, name_of}
use Rattle.ports.specs.Lists.{File, look_up}
use Rattle.ports.specs.Kinds.{ShelfCourse, after_begin}
use Rattle.ports.specs.Faults.{CountsAt, SameFaults}

-- a shelf that never fails at a read: its files, what is open, how many opens there were, how many bytes reads moved, how often a create failed, and the name that the last one worked on
pub record SureFiles : Type 0 where
  pub files : List File
  pub opened : Access
  pub opens : ℕ
  pub taken : ℕ
  pub write_faults : ℕ
  pub write_last : Option (List ℕ)

-- what it tells of its files
abbrev pub sure_content : SureFiles → Option Files
sure_content shelf = Some (look_up shelf.files)

-- a create counted a fault at this name, or none
abbrev pub SureWritesCount : Bool → List ℕ → SureFiles → SureFiles → Type 0
SureWritesCount failed name old new = CountsAt failed name (λ shelf. shelf.write_faults) (λ shelf. shelf.write_last) old new

-- A shelf of which calls may fail: its files, what is open, how many opens there were, how many bytes reads moved, how many buffers for files to come it has, how many bytes each has room for,
-- the most bytes that a call moves, the course of its calls, and its counts of faults with the names that the last of them worked on.
pub record MemFiles : Type 0 where
  pub files : List File
  pub opened : Access
  pub opens : ℕ
  pub taken : ℕ
  pub blanks : ℕ
  pub room : ℕ
  pub largest : ℕ
  pub course : ShelfCourse
  pub read_faults : ℕ
  pub read_last : Option (List ℕ)
  pub write_faults : ℕ
  pub write_last : Option (List ℕ)

-- what it tells of its files
abbrev pub mem_content : MemFiles → Option Files
mem_content shelf = Some (look_up shelf.files)

-- a call counted a fault of its kind at this name, or none

abbrev pub ReadsCount : Bool → List ℕ → MemFiles → MemFiles → Type 0
ReadsCount failed name old new = CountsAt failed name (λ shelf. shelf.read_faults) (λ shelf. shelf.read_last) old new

abbrev pub WritesCount : Bool → List ℕ → MemFiles → MemFiles → Type 0
WritesCount failed name old new = CountsAt failed name (λ shelf. shelf.write_faults) (λ shelf. shelf.write_last) old new

-- it counted none of its kind

abbrev pub SameReads : MemFiles → MemFiles → Type 0
SameReads old new = SameFaults (λ shelf. shelf.read_faults) (λ shelf. shelf.read_last) old new

abbrev pub SameWrites : MemFiles → MemFiles → Type 0
SameWrites old new = SameFaults (λ shelf. shelf.write_faults) (λ shelf. shelf.write_last) old new

-- a call of this kind was made, which changed neither the room that each buffer has nor the most bytes that a call moves
pub record Goes (kind : Kind) (old new : MemFiles) : Type 0 where
  pub course : new.course ≡ after_begin kind old.course
  pub room : new.room ≡ old.room
  pub largest : new.largest ≡ old.largest

-- how many bytes the next read moves into a buffer of this length, if it does not fail
abbrev pub readable_file : MemFiles → ℕ → ℕ
readable_file shelf room = min (length (unwrap_or (left_of shelf.opened) [])) (min room shelf.largest)

-- how many bytes of a piece of this length the next write takes, if it does not fail
abbrev pub writable_file : MemFiles → ℕ → ℕ
writable_file shelf size = min (min size shelf.largest) (shelf.room - length (bytes_of (look_up shelf.files) (name_of shelf.opened)))

-- a shelf as it is made: no call was made yet, and none failed
abbrev pub IsNewShelf : List File → ℕ → ℕ → List (Kind × ℕ) → ℕ → MemFiles → Type 0
IsNewShelf files blanks room fails largest shelf = shelf ≡ record {
  files = files;
  opened = Nothing;
  opens = 0;
  taken = 0;
  blanks = blanks;
  room = room;
  largest = largest;
  course = record { fails = fails; made = replicate 5 0 };
  read_faults = 0;
  read_last = None;
  write_faults = 0;
  write_last = None;
}
