-- What the answers of the traits' calls mean.
use Rattle.std.specs.Prelude.{◌≡◌, ℕ, ◌<◌, ◌≤◌, Bool, true, false, ◌&&◌, List, [], length, take, drop, Option}
use Rattle.std.specs.Option.{option_map}
use Rattle.ports.specs.declared.source.Reading.{Reading}
use Rattle.ports.specs.declared.source.Reading.TheVariants.{Got, End, Failed as ReadFailed}
use Rattle.ports.specs.declared.sink.Writing.{Writing}
use Rattle.ports.specs.declared.sink.Writing.TheVariants.{Took, Failed as WriteFailed}
use Rattle.ports.specs.declared.shelf.Opening.{Opening}
use Rattle.ports.specs.declared.shelf.Opening.TheVariants.{Opened, Failed as OpenFailed}
use Rattle.ports.specs.declared.shelf.Creating.{Creating}
use Rattle.ports.specs.declared.shelf.Creating.TheVariants.{Created, Failed as CreateFailed}
use Rattle.ports.specs.declared.shelf.Closing.{Closing}
use Rattle.ports.specs.declared.shelf.Closing.TheVariants.{Closed, Failed as CloseFailed}
use Rattle.ports.specs.Bytes.{Moves, Gains, IsUsedUp}
use Rattle.ports.specs.Files.{Files, bytes_of, with_file, with_more, Access, Nothing, ForReading, ForWriting, is_reading, is_writing}

-- which answers say that the call failed

abbrev pub read_failed : Reading → Bool
read_failed (Got count) = false
read_failed End = false
read_failed ReadFailed = true

abbrev pub write_failed : Writing → Bool
write_failed (Took count) = false
write_failed WriteFailed = true

-- how many bytes a read moved
abbrev pub moved_by : Reading → ℕ
moved_by (Got count) = count
moved_by End = 0
moved_by ReadFailed = 0

abbrev pub open_failed : Opening → Bool
open_failed Opened = false
open_failed OpenFailed = true

abbrev pub create_failed : Creating → Bool
create_failed Created = false
create_failed CreateFailed = true

abbrev pub close_failed : Closing → Bool
close_failed Closed = false
close_failed CloseFailed = true

-- where a failed close counts: at the reads of what was opened, at the writes of what was created

abbrev pub close_failed_reading : Closing → Access → Bool
close_failed_reading answer access = close_failed answer && is_reading access

abbrev pub close_failed_writing : Closing → Access → Bool
close_failed_writing answer access = close_failed answer && is_writing access

-- what is open after an open: the file, to be read from its start
abbrev pub after_open : Opening → List ℕ → Option Files → Access
after_open Opened name content = ForReading name (option_map (λ files. bytes_of files name) content)
after_open OpenFailed name content = Nothing

-- what is open after a create
abbrev pub after_create : Creating → List ℕ → Access
after_create Created name = ForWriting name
after_create CreateFailed name = Nothing

-- a create leaves the name without bytes, and changes nothing where it failed
abbrev pub CreateEmpties : Creating → List ℕ → Option Files → Option Files → Type 0
CreateEmpties Created name before now = now ≡ option_map (with_file name []) before
CreateEmpties CreateFailed name before now = now ≡ before

-- A read moves the first bytes that were left to the front of the buffer, at least one. It moves none where none were left or it failed.
abbrev pub ReadMoves : Reading → List ℕ → Option (List ℕ) → Option (List ℕ) → Type 0
ReadMoves (Got count) buffer before now = (0 < count) × (count ≤ length buffer) × Moves before now (take count buffer)
ReadMoves End buffer before now = IsUsedUp before × (now ≡ before)
ReadMoves ReadFailed buffer before now = now ≡ before

-- A read leaves all of the buffer that lies behind what it moved, and so all of it where it moved nothing.
abbrev pub LeavesRest : Reading → List ℕ → List ℕ → Type 0
LeavesRest (Got count) before now = drop count now ≡ drop count before
LeavesRest End before now = now ≡ before
LeavesRest ReadFailed before now = now ≡ before

-- A write appends the first bytes of the piece, at least one. It appends none where it failed.
abbrev pub WriteAppends : Writing → List ℕ → Option (List ℕ) → Option (List ℕ) → Type 0
WriteAppends (Took count) piece before now = (0 < count) × (count ≤ length piece) × Gains before now (take count piece)
WriteAppends WriteFailed piece before now = now ≡ before

-- the same of a file on a shelf
abbrev pub WriteAppendsTo : Writing → List ℕ → List ℕ → Option Files → Option Files → Type 0
WriteAppendsTo (Took count) name piece before now = (0 < count) × (count ≤ length piece) × (now ≡ option_map (with_more name (take count piece)) before)
WriteAppendsTo WriteFailed name piece before now = now ≡ before
