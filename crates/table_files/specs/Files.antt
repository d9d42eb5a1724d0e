-- The files of tables.
use Rattle.std.specs.Prelude.{◌++◌, ℕ, List, codes, decimal}
use Rattle.rel_base.specs.declared.dependency.Table.{Table}
use Rattle.rel_base.specs.Projection.{part, projection}
use Rattle.rel_base.specs.RowState.{RowState}
use Rattle.ports.specs.Lists.{File}
use Rattle.report_text.specs.Tables.{table_file_text}

-- the name of the file of a table, by the table's number
abbrev pub table_name : List ℕ → ℕ → List ℕ
table_name prefix number = prefix ++ decimal number ++ codes ".csv"

-- the file of a table: the names of its columns, and then the distinct parts that the rows have in them
abbrev pub table_file : List ℕ → RowState → ℕ × Table → File
table_file prefix r numbered =
    (table_name prefix numbered.0, table_file_text (part numbered.1.columns r.names) (projection r numbered.1.columns))
