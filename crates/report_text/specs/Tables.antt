-- The tables that a relation is split into, numbered from 1, and the files of their rows.
use Rattle.std.specs.Prelude.{ℕ, ◌==◌, List, [], ◌∷◌, ◌++◌, codes, decimal}
use Rattle.std.specs.List.{enumerate_from, filter, flat_map}
use Rattle.col_set.specs.ColSet.{Columns}
use Rattle.rel_base.specs.Cells.{Row}
use Rattle.rel_base.specs.declared.dependency.Table.{Table}
use Rattle.report_text.specs.Field.{columns_text}
use Rattle.report_text.specs.Line.{line}

-- a table's number, its columns and its key
abbrev pub table_line : ℕ → Table → List ℕ
table_line number table = line (codes "table" ∷ decimal number ∷ columns_text table.columns ∷ columns_text table.key ∷ [])

-- one more minimal key of the table with this number
abbrev pub alternate_line : ℕ × Columns → List ℕ
alternate_line alternate = line (codes "alternate" ∷ decimal alternate.0 ∷ columns_text alternate.1 ∷ [])

-- the alternates of the table with this number
abbrev pub alternates_of : List (ℕ × Columns) → ℕ → List (ℕ × Columns)
alternates_of alternates number = filter (λ alternate. alternate.0 == number) alternates

-- a table's line, and a line for each of its alternates
abbrev pub table_lines : List (ℕ × Columns) → ℕ × Table → List ℕ
table_lines alternates table = table_line table.0 table.1 ++ flat_map alternate_line (alternates_of alternates table.0)

unfoldable pub tables_text : List Table → List (ℕ × Columns) → List ℕ
tables_text tables alternates = flat_map (table_lines alternates) (enumerate_from 1 tables)

-- columns of a table whose rows are among those of another table on them, which they are a key of
abbrev pub reference_line : ℕ → Columns → ℕ → List ℕ
reference_line from key into = line (codes "reference" ∷ decimal from ∷ columns_text key ∷ decimal into ∷ [])

-- the names of the columns, and then the rows
unfoldable pub table_file_text : Row → List Row → List ℕ
table_file_text names rows = line names ++ flat_map line rows
