-- What a shelf of the system's files has open, and the names that its faults stand at.
use Rattle.std.specs.Prelude.{if◌then◌else◌, ℕ, List, Option, None, Some}
use Rattle.ports.specs.Files.{Access, Nothing as NothingOpen, ForReading as Reads, ForWriting as Writes}
use Rattle.depprof.specs.declared.file_shelf.Held.{Held}
use Rattle.depprof.specs.declared.file_shelf.Held.TheVariants.{Nothing, ForReading, ForWriting}

-- what is open; nothing of what it holds is told
abbrev pub access_of : {F : Type 0} → Held F → Access
access_of Nothing = NothingOpen
access_of (ForReading name file failed) = Reads name None
access_of (ForWriting name file failed) = Writes name

-- the name of the last read fault: that of the open file where one of its calls failed
abbrev pub read_last_of : {F : Type 0} → Held F → Option (List ℕ) → Option (List ℕ)
read_last_of Nothing last = last
read_last_of (ForReading name file failed) last = if failed then Some name else last
read_last_of (ForWriting name file failed) last = last

-- the name of the last write fault, in the same way
abbrev pub write_last_of : {F : Type 0} → Held F → Option (List ℕ) → Option (List ℕ)
write_last_of Nothing last = last
write_last_of (ForReading name file failed) last = last
write_last_of (ForWriting name file failed) last = if failed then Some name else last
