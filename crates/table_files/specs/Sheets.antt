-- Tables with the rows that stand for their parts.
use Rattle.std.specs.Prelude.{◌≡◌, ◌<◌, ◌^◌, ℕ, map}
use Rattle.std.specs.List.{All}
use Rattle.rel_base.specs.declared.dependency.Table.{Table}
use Rattle.rel_base.specs.Projection.{part, projection}
use Rattle.rel_base.specs.RowState.{RowState, next, row, width}
use Rattle.table_files.specs.declared.sheets.Sheet.{Sheet}

-- the table behind its number
abbrev pub table_behind : Sheet → ℕ × Table
table_behind sheet = (sheet.number, sheet.table)

-- the sheet has columns of the rows, and given rows whose parts are the projection to these columns
pub record IsSheet (r : RowState) (sheet : Sheet) : Type 0 where
  pub columns : sheet.table.columns < 2 ^ width r
  pub given : All (λ number. number < next r) sheet.rows.items
  pub parts : map (λ number. part sheet.table.columns (row r number)) sheet.rows.items ≡ projection r sheet.table.columns
