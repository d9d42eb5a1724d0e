-- The rules that refuse a file.
use Rattle.std.specs.Prelude.{◌≤◌, ◌-◌, ◌==◌, ◌≡◌, if◌then◌else◌, not, nat_lt, ℕ, Bool, List, [], ◌∷◌, length, Option, Some, None, option_map, slice_get}
use Rattle.std.specs.List.{All, list_any, filter_map, enumerate_from}
use Rattle.rel_base.specs.declared.limits.Limits.{Limits}
use Rattle.rel_base.specs.declared.why.Why.{Why}
use Rattle.rel_base.specs.declared.why.Why.TheVariants.{NoHeader, Columns, Fields, Cell, Rows, Bytes}
use Rattle.rel_base.specs.Cells.{Row}
use Rattle.rel_base.specs.Relation.{Content}
use Rattle.csv_load.specs.Records.{records_of}

-- whether some cell has more bytes than the limit
abbrev pub has_long_cell : ℕ → Row → Bool
has_long_cell limit cells = list_any (λ cell. nat_lt limit (length cell)) cells

-- why the header is refused, if it is
abbrev pub header_refusal : Limits → Row → Option Why
header_refusal limits names =
    if nat_lt limits.columns (length names) then Some Columns
    else if has_long_cell limits.cell names then Some Cell
    else None

-- why a later record is refused, if it is: record r is row r - 1, and the header has so many columns
abbrev pub row_refusal : Limits → ℕ → ℕ → Row → Option Why
row_refusal limits width rec cells =
    if not (length cells == width) then Some Fields
    else if has_long_cell limits.cell cells then Some Cell
    else if nat_lt limits.rows (rec - 1) then Some Rows
    else None

-- why a record is refused, if it is, by its number and its cells
abbrev pub refusal : Limits → ℕ → ℕ → Row → Option Why
refusal limits width rec cells = if rec == 1 then header_refusal limits cells else row_refusal limits width rec cells

-- the records that a rule refuses, in order, each with its number and the cause, where the first one has the number n
abbrev pub refusals_from : (ℕ → Row → Option Why) → ℕ → List Row → List (ℕ × Why)
refusals_from rule n records = filter_map (λ (p : ℕ × Row). option_map (λ why. (p.0, why)) (rule p.0 p.1)) (enumerate_from n records)

-- the first of them
unfoldable pub first_refused : (ℕ → Row → Option Why) → ℕ → List Row → Option (ℕ × Why)
first_refused rule n records = slice_get (refusals_from rule n records) 0

-- the record and the cause by which records are refused as a relation, if they are
unfoldable pub refused_records : Limits → List Row → Option (ℕ × Why)
refused_records limits [] = Some (0, NoHeader)
refused_records limits (header ∷ rows) = first_refused (refusal limits (length header)) 1 (header ∷ rows)

-- the record and the cause by which a file is refused, if it is: it may also have too many bytes
unfoldable pub refused_file : Limits → List ℕ → Option (ℕ × Why)
refused_file limits bytes =
    if nat_lt limits.bytes (length bytes) then Some (0, Bytes) else refused_records limits (records_of bytes)

-- the names and the rows are within the limits, and each row is as wide as the header
pub record IsWithin (limits : Limits) (c : Content) : Type 0 where
  pub columns : length c.names ≤ limits.columns
  pub widths : All (λ row. length row ≡ length c.names) c.rows
  pub cells : All (λ row. All (λ cell. length cell ≤ limits.cell) row) (c.names ∷ c.rows)
  pub rows : length c.rows ≤ limits.rows
