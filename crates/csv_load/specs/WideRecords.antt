-- Records that are too wide, and the bytes of a record one by one.
use Rattle.std.specs.Prelude.{◌≡◌, ◌<◌, ◌+◌, ◌++◌, ℕ, Bool, true, false, List, ◌∷◌, length}
use Rattle.csv.specs.declared.parser.State.{State}
use Rattle.csv.specs.declared.parser.State.TheVariants as st
use Rattle.csv.specs.declared.parser.Action.{Action}
use Rattle.csv.specs.declared.parser.Action.TheVariants as act
use Rattle.rel_base.specs.Cells.{Row}
use Rattle.csv_load.specs.declared.wide_records.Place.{Place}
use Rattle.csv_load.specs.declared.wide_records.Place.TheVariants as place

-- the record with this number, counted from 1, has more fields than the limit
pub record IsWideRecord (limit : ℕ) (records : List Row) (rec : ℕ) : Type 0 where
  pub earlier : List Row
  pub row : Row
  pub later : List Row
  pub records_are : records ≡ earlier ++ (row ∷ later)
  pub number : rec ≡ length earlier + 1
  pub wide : limit < length row

-- the state that a reader of records has at a place
abbrev pub state_of : Place → State
state_of place.BeforeRecord = st.StartRecord
state_of place.BeforeField = st.StartField
state_of place.InField = st.InField
state_of place.InQuotes = st.InQuoted
state_of place.AfterQuote = st.AfterQuote

-- whether an action ends a field before another
abbrev pub ends_field : Action → Bool
ends_field act.EndField = true
ends_field act.EndRecord = false
ends_field act.Copy = false
ends_field act.Skip = false
