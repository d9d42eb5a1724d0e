-- A text that is parted at a record that is far too wide.
use Rattle.std.specs.Prelude.{◌≡◌, ◌<◌, ◌≤◌, ◌++◌, ℕ, List, [], ◌∷◌, length, drop, Option, Some, None}
use Rattle.csv.specs.Machine.{Read, next_record}
use Rattle.csv.specs.Reading.{default_config}
use Rattle.csv.specs.declared.parser.State.TheVariants as st
use Rattle.rel_base.specs.Cells.{Row}
use Rattle.csv_load.specs.Records.{records_of}
use Rattle.csv_load.specs.Unread.{records_after}

-- A record of the text has more fields than the limit. The records of the one part are those before it and what the part has of it, which
-- are these fields and one more. Those of the other part are the records after it.
pub record IsParted (limit : ℕ) (bytes upto behind : List ℕ) : Type 0 where
  pub earlier : List Row
  pub fields : Row
  pub field : List ℕ
  pub others : Row
  pub records_are : records_of bytes ≡ earlier ++ ((fields ++ others) ∷ records_of behind)
  pub upto_are : records_of upto ≡ earlier ++ ((fields ++ (field ∷ [])) ∷ [])
  pub many : limit ≤ length fields
  pub some : 0 < length others

-- the records from a read on
abbrev pub records_then : Option Read → List Row
records_then None = []
records_then (Some read) = read.0 ∷ records_after read.1 (Some read.2)

-- whatever follows these bytes, a record is read on behind them before a field, with as many fields as the limit
pub record IsWideIn (limit : ℕ) (start : List ℕ) : Type 0 where
  pub earlier : List Row
  pub fields : Row
  pub field : List ℕ
  pub reads : (rest : List ℕ) → records_after st.StartRecord (Some (start ++ rest)) ≡ earlier ++ records_then (next_record default_config st.StartField fields field rest)
  pub many : limit ≤ length fields

-- a record that has these fields before the rest of a text ends behind n bytes of it
pub record EndsBehind (rest : List ℕ) (n : ℕ) (fields : Row) (field : List ℕ) : Type 0 where
  pub others : Row
  pub some : 0 < length others
  pub reads : records_then (next_record default_config st.StartField fields field rest) ≡ (fields ++ others) ∷ records_of (drop n rest)
