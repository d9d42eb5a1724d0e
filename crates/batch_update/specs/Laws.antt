-- The laws of the definitions, which functions with an empty body ensure.
use Rattle.std.specs.Prelude.{◌<◌, ◌≤◌, ◌≡◌, ◌↔◌, ◌⊎◌, ℕ, ⊤, List, [], ◌∷◌, length, Some, All, codes, decimal}
use Rattle.rel_base.specs.declared.limits.Limits.{Limits}
use Rattle.rel_base.specs.declared.batch.Op.TheVariants.{Insert, Delete, Update}
use Rattle.rel_base.specs.Cells.{Row}
use Rattle.batch_update.specs.declared.entry.Entry.{Entry}
use Rattle.batch_update.specs.declared.entry.Entry.TheVariants.{Operation, End, Report, Malformed}
use Rattle.batch_update.specs.Entry.{entry_of}
use Rattle.batch_update.specs.RowNumber.{row_number}

-- a number that a row may have
abbrev pub IsRowNumber : ℕ → Type 0
IsRowNumber n = (0 < n) × (n ≤ 4294967295)

-- cells that a row may have
abbrev pub AreCells : ℕ → Limits → Row → Type 0
AreCells columns limits cells = (length cells ≡ columns) × All (λ cell. length cell ≤ limits.cell) cells

-- a field names a row exactly where it is that row's number in plain decimal
abbrev pub RowsAreNamedInDecimal : Type 0
RowsAreNamedInDecimal = (field : List ℕ) (n : ℕ) → (row_number field ≡ Some n) ↔ ((field ≡ decimal n) × IsRowNumber n)

-- an entry that a record may say, and the record
abbrev pub Says : ℕ → Limits → Row → Entry → Type 0
Says columns limits fields (Operation (Insert cells)) = (fields ≡ codes "+" ∷ cells) × AreCells columns limits cells
Says columns limits fields (Operation (Delete n)) = (fields ≡ codes "-" ∷ decimal n ∷ []) × IsRowNumber n
Says columns limits fields (Operation (Update n cells)) = (fields ≡ codes "=" ∷ decimal n ∷ cells) × IsRowNumber n × AreCells columns limits cells
Says columns limits fields End = fields ≡ codes "!" ∷ []
Says columns limits fields Report = fields ≡ codes "?" ∷ []
Says columns limits fields (Malformed cause) = ⊥

abbrev pub IsMalformed : Entry → Type 0
IsMalformed (Operation op) = ⊥
IsMalformed End = ⊥
IsMalformed Report = ⊥
IsMalformed (Malformed cause) = ⊤

-- a record is read as an entry only where it says that entry, or as malformed
abbrev pub EntriesAreSaid : Type 0
EntriesAreSaid = (columns : ℕ) (limits : Limits) (fields : Row) → IsMalformed (entry_of columns limits fields)
    ⊎ Says columns limits fields (entry_of columns limits fields)

-- a record that says an entry is read as that entry
abbrev pub WhatIsSaidIsRead : Type 0
WhatIsSaidIsRead = (columns : ℕ) (limits : Limits) (fields : Row) (entry : Entry) → Says columns limits fields entry → entry_of columns limits fields ≡ entry
