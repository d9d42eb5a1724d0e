-- What a reader of records has left.
use Rattle.std.specs.Prelude.{◌+◌, ◌≡◌, ◌&&◌, ◌||◌, ℕ, Bool, true, false, not, is_none, List, [], length, Option, Some, None, IsSome, IsTrue}
use Rattle.std.specs.Borrow.{Bor}
use Rattle.csv.specs.Machine.{ends_at_end}
use Rattle.csv.specs.Reading.{default_config, is_flexible, reader_trim, records_from, source_of, names_headers, took_first, reader_headers, reader_config, reader_state}
use Rattle.csv.specs.declared.parser.State.{State}
use Rattle.csv.specs.declared.reader.Reader.{Reader}
use Rattle.csv.specs.declared.reader.Trim.TheVariants as trim
use Rattle.rel_base.specs.Cells.{Row}
use Rattle.csv_load.specs.declared.record_reader.Progress.{Progress}
use Rattle.csv_load.specs.declared.record_reader.Progress.TheVariants.{Reading, Ended, Stopped}

-- the records that are left, and whether want of memory stopped the reader
pub record Unread : Type 0 where
  pub left : List Row
  pub stopped : Bool

-- the bytes that a reader of bytes in memory has left, if it has not failed
abbrev pub bytes_left : Reader (Bor (List ℕ)) → Option (List ℕ)
bytes_left r = source_of (λ s. Some s.now) r

-- the records of a text from a state between two records on
abbrev pub records_after : State → Option (List ℕ) → List Row
records_after state None = []
records_after state (Some text) = records_from default_config (length text + 1) state text

abbrev pub unread : Reader (Bor (List ℕ)) → Progress → Unread
unread r Reading = record { left = records_after (reader_state r) (bytes_left r); stopped = false }
unread r Ended = record { left = []; stopped = false }
unread r Stopped = record { left = []; stopped = true }

-- the next read gives the next record, of whatever length, as it stands
pub record ReadsPlainly (r : Reader (Bor (List ℕ))) : Type 0 where
  pub config : reader_config r ≡ default_config
  pub flexible : is_flexible r ≡ true
  pub trim : reader_trim r ≡ trim.None
  pub ready : IsTrue (took_first r || (not (names_headers r) && is_none (reader_headers r)))
  pub known : IsSome (bytes_left r)
  pub between : ends_at_end (reader_state r) ≡ false

-- while it reads, a reader stands between two records
abbrev pub IsBetweenRecords : Reader (Bor (List ℕ)) → Progress → Type 0
IsBetweenRecords r progress = progress ≡ Reading → ReadsPlainly r
