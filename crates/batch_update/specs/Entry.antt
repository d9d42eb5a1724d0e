-- What one record of a change text says.
use Rattle.std.specs.Prelude.{if◌then◌else◌, ◌==◌, ℕ, Bool, true, false, [], ◌∷◌, length, Option, Some, None}
use Rattle.rel_base.specs.declared.limits.Limits.{Limits}
use Rattle.rel_base.specs.declared.batch.Op.{Op}
use Rattle.rel_base.specs.declared.batch.Op.TheVariants.{Insert, Delete, Update}
use Rattle.rel_base.specs.declared.why.Why.{Why}
use Rattle.rel_base.specs.declared.why.Why.TheVariants as why
use Rattle.rel_base.specs.Cells.{Row}
use Rattle.csv_load.specs.Refusal.{has_long_cell}
use Rattle.batch_update.specs.declared.entry.Entry.{Entry}
use Rattle.batch_update.specs.declared.entry.Entry.TheVariants.{Operation, End, Report, Malformed}
use Rattle.batch_update.specs.declared.kind.Kind.{Kind}
use Rattle.batch_update.specs.declared.kind.Kind.TheVariants as kind
use Rattle.batch_update.specs.Kind.{kind_of}
use Rattle.batch_update.specs.RowNumber.{row_number}

-- an operation with these cells, of which none may be too long
abbrev pub with_cells : Limits → Row → Op → Entry
with_cells limits cells op = if has_long_cell limits.cell cells then Malformed why.Cell else Operation op

-- an operation on the row of this number, which has to be one
abbrev pub on_row : Option ℕ → (ℕ → Entry) → Entry
on_row None entry = Malformed why.Number
on_row (Some number) entry = entry number

-- `+` and the cells of a new row, as many as there are columns
abbrev pub insertion : ℕ → Limits → Row → Entry
insertion columns limits cells =
    if length cells == columns then with_cells limits cells (Insert cells) else Malformed why.Fields

-- `-` and the number of a row
abbrev pub deletion : Row → Entry
deletion [] = Malformed why.Fields
deletion (field ∷ []) = on_row (row_number field) (λ number. Operation (Delete number))
deletion (field ∷ other ∷ others) = Malformed why.Fields

-- `=`, the number of a row, and the cells of the new row
abbrev pub update : ℕ → Limits → Row → Entry
update columns limits [] = Malformed why.Fields
update columns limits (field ∷ cells) =
    if length cells == columns then on_row (row_number field) (λ number. with_cells limits cells (Update number cells))
    else Malformed why.Fields

-- what stands alone in its record
abbrev pub alone : Row → Entry → Entry
alone [] entry = entry
alone (field ∷ fields) entry = Malformed why.Fields

-- what the fields after the first say in a record of this kind
abbrev pub entry_by : ℕ → Limits → Option Kind → Row → Entry
entry_by columns limits None fields = Malformed why.Kind
entry_by columns limits (Some kind.Insert) fields = insertion columns limits fields
entry_by columns limits (Some kind.Delete) fields = deletion fields
entry_by columns limits (Some kind.End) fields = alone fields End
entry_by columns limits (Some kind.Report) fields = alone fields Report
entry_by columns limits (Some kind.Update) fields = update columns limits fields

-- what a record says, for a relation of so many columns
unfoldable pub entry_of : ℕ → Limits → Row → Entry
entry_of columns limits [] = Malformed why.Kind
entry_of columns limits (first ∷ fields) = entry_by columns limits (kind_of first) fields

abbrev pub is_end : Entry → Bool
is_end (Operation op) = false
is_end End = true
is_end Report = false
is_end (Malformed cause) = false

abbrev pub is_report : Entry → Bool
is_report (Operation op) = false
is_report End = false
is_report Report = true
is_report (Malformed cause) = false

-- the operation that it says, if it says one
abbrev pub operation : Entry → Option Op
operation (Operation op) = Some op
operation End = None
operation Report = None
operation (Malformed cause) = None

-- why it can't stand in a batch, if it can't: a report is asked for between batches alone
abbrev pub fault : Entry → Option Why
fault (Operation op) = None
fault End = None
fault Report = Some why.Kind
fault (Malformed cause) = Some cause
