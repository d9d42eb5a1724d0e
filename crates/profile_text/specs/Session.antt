-- What a session answers to the items of a change text.
use Rattle.std.specs.Prelude.{◌+◌, ◌-◌, ◌++◌, ℕ, List, [], ◌∷◌, length, Result, Ok, Err}
use Rattle.rel_base.specs.declared.batch.Op.{Op}
use Rattle.rel_base.specs.declared.limits.Limits.{Limits}
use Rattle.rel_base.specs.declared.why.Why.{Why}
use Rattle.rel_base.specs.RowState.{RowState, width}
use Rattle.rel_base.specs.Batches.{after, kept_or_after, insert_count, delete_count}
use Rattle.batch_update.specs.declared.item.Item.{Item}
use Rattle.batch_update.specs.declared.item.Item.TheVariants.{Batch, Bad, Report}
use Rattle.batch_update.specs.Changes.{changes}
use Rattle.report_text.specs.Outcome.{applied_line, refused_line}
use Rattle.profile_text.specs.Reports.{reports}

-- what became of a batch whose first operation is record `first` of the change text
abbrev pub batch_line : ℕ → ℕ → List Op → Result RowState (ℕ × Why) → List ℕ
batch_line number first ops (Ok s) = applied_line number (insert_count ops) (delete_count ops) (length s.live)
batch_line number first ops (Err (k, why)) = refused_line number (first + k - 1) why

-- what an item writes where these are the rows, for the relation of a file of this name
abbrev pub item_text : List ℕ → RowState → Item → List ℕ
item_text name r (Batch number first ops) = batch_line number first ops (after r ops)
item_text name r (Bad number rec why) = refused_line number rec why
item_text name r Report = reports (name ∷ []) (r ∷ [])

-- the rows that it leaves: a refused batch changes nothing
abbrev pub item_rows : RowState → Item → RowState
item_rows r (Batch number first ops) = kept_or_after r (after r ops)
item_rows r (Bad number rec why) = r
item_rows r Report = r

-- what the items write, one after another
unfoldable pub answers : List ℕ → RowState → List Item → List ℕ
answers name r [] = []
answers name r (item ∷ items) = item_text name r item ++ answers name (item_rows r item) items

-- what a change text is answered
abbrev pub session_text : List ℕ → RowState → Limits → List ℕ → List ℕ
session_text name r limits bytes = answers name r (changes bytes (width r) limits)
