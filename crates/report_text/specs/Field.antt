-- The texts of fields.
use Rattle.std.specs.Prelude.{ℕ, ◌+◌, ◌++◌, List, map, codes, decimal}
use Rattle.std.specs.List.{join_with_byte}
use Rattle.col_set.specs.ColSet.{Columns, columns}
use Rattle.report_text.specs.declared.field.Field.{Field}
use Rattle.report_text.specs.declared.field.Field.TheVariants.{Bytes, Number, Marks}
use Rattle.report_text.specs.declared.field.Field.TheVariants as field

abbrev pub comma : ℕ
comma = 44

abbrev pub space : ℕ
space = 32

-- the numbers of the columns, counted from 1, ascending and parted by one space
unfoldable pub columns_text : Columns → List ℕ
columns_text set = join_with_byte space (map (λ column. decimal (column + 1)) (columns set))

-- what names a column: its relation's number, a point, and its own number
abbrev pub column_mark : ℕ → ℕ → List ℕ
column_mark relation column = decimal relation ++ codes "." ++ decimal column

-- the names of columns of a relation, the columns counted from 0, in this order and parted by one space
unfoldable pub marks_text : ℕ → List ℕ → List ℕ
marks_text relation columns = join_with_byte space (map (λ column. column_mark relation (column + 1)) columns)

abbrev pub field_bytes : Field → List ℕ
field_bytes (Bytes bytes) = bytes.now
field_bytes (Number n) = decimal n
field_bytes (field.Columns set) = columns_text set
field_bytes (Marks relation columns) = marks_text relation columns.now
