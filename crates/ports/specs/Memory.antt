-- What the versions in memory are seen as, and what they answer.
use Rattle.std.specs.Prelude.{ℕ, zero, suc, ◌+◌, ◌-◌, ◌==◌, Bool, true, false, List, [], length, min}
use Rattle.std.specs.List.{list_any}
use Rattle.ports.specs.declared.source.Reading.{Reading}
use Rattle.ports.specs.declared.source.Reading.TheVariants.{Got, End, Failed as ReadFailed}
use Rattle.ports.specs.declared.sink.Writing.{Writing}
use Rattle.ports.specs.declared.sink.Writing.TheVariants.{Took, Failed as WriteFailed}
use Rattle.ports.specs.Faults.{last_count}

-- one more, where a count has not come to its last value
abbrev pub one_more : ℕ → ℕ
one_more count = min (count + 1) last_count

-- so many more, up to the last value
abbrev pub more_of : ℕ → ℕ → ℕ
more_of count more = min (count + more) last_count

-- bytes that are held, and the number of bytes that there is room for in all
pub record Room : Type 0 where
  pub held : List ℕ
  pub room : ℕ

-- room for so many bytes, with none held
abbrev pub empty_room : ℕ → Room
empty_room bytes = record { held = []; room = bytes }

-- how many more there is room for
abbrev pub room_left : Room → ℕ
room_left r = r.room - length r.held

-- the numbers of the calls that fail, counted from 1, the number of calls so far, and how many failed
pub record Course : Type 0 where
  pub fails : List ℕ
  pub calls : ℕ
  pub faults : ℕ

-- the course before the first call
abbrev pub new_course : List ℕ → Course
new_course fails = record { fails = fails; calls = 0; faults = 0 }

-- whether the next call is listed as one that fails
abbrev pub is_listed : Course → Bool
is_listed course = list_any (λ number. number == one_more course.calls) course.fails

-- the course after a call, which failed or not
abbrev pub after_call : Course → Bool → Course
after_call course true = record course { calls = one_more course.calls; faults = one_more course.faults }
after_call course false = record course { calls = one_more course.calls }

-- what a read answers that fails or can move so many bytes
abbrev pub read_answer : Bool → ℕ → Reading
read_answer true count = ReadFailed
read_answer false zero = End
read_answer false (suc count) = Got (suc count)

-- what a write answers that fails or has room for so many bytes
abbrev pub write_answer : Bool → ℕ → Writing
write_answer true count = WriteFailed
write_answer false zero = WriteFailed
write_answer false (suc count) = Took (suc count)

-- A sink that fails only where it is full. The count of faults is above 0 only where it is.
pub record SureHeld : Type 0 where
  pub store : Room
  pub faults : ℕ

-- a source in memory of which calls may fail: what is left, the course of its calls, and the most bytes that one moves
pub record MemLeft : Type 0 where
  pub left : List ℕ
  pub course : Course
  pub largest : ℕ

-- a sink in memory of which calls may fail
pub record MemHeld : Type 0 where
  pub store : Room
  pub course : Course
  pub largest : ℕ

-- how many bytes the next read moves into a buffer of this length, if it does not fail
abbrev pub readable : MemLeft → ℕ → ℕ
readable source room = min (length source.left) (min room source.largest)

-- how many bytes of a piece of this length the next write takes, if it does not fail
abbrev pub writable : MemHeld → ℕ → ℕ
writable sink size = min (min size sink.largest) (room_left sink.store)
