-- A text that is cut between two records.
use Rattle.std.specs.Prelude.{◌≡◌, ◌≤◌, ◌++◌, ℕ, List, length, take, drop, if◌then◌else◌}
use Rattle.csv.specs.Machine.{step, is_end}
use Rattle.csv.specs.Reading.{default_config}
use Rattle.csv.specs.declared.parser.State.{State}
use Rattle.csv.specs.declared.parser.State.TheVariants as st
use Rattle.csv_load.specs.Records.{records_of, without_marks}

-- The records of the text are those of its first bytes, and then those of the others. Neither part begins with a byte order mark.
pub record IsCut (text : List ℕ) (size : ℕ) : Type 0 where
  pub within : size ≤ length text
  pub records_are : records_of text ≡ records_of (take size text) ++ records_of (drop size text)
  pub front : without_marks (take size text) ≡ take size text
  pub back : without_marks (drop size text) ≡ drop size text

-- the state of a reader of records behind a byte: it stands before a record also where the byte ends one
abbrev pub state_behind : State → ℕ → State
state_behind s c = if is_end (step default_config s c).1 then st.StartRecord else (step default_config s c).0
