-- What `normalize` writes: the report of a relation, its tables with their other keys, and a file for each table.
use Rattle.std.specs.Prelude.{◌++◌, ℕ, List, [], ◌∷◌, map}
use Rattle.std.specs.List.{enumerate_from}
use Rattle.col_set.specs.ColSet.{all}
use Rattle.rel_base.specs.declared.dependency.Table.{Table}
use Rattle.rel_base.specs.RowState.{RowState, width}
use Rattle.bcnf_split.specs.Split.{tables_of}
use Rattle.report_text.specs.Tables.{tables_text}
use Rattle.table_files.specs.Files.{table_file}
use Rattle.table_files.specs.Keys.{alternates}
use Rattle.profile_text.specs.Reports.{reports}
use Rattle.task_base.specs.Written.{Written}

-- the tables that all columns are split into, each with its key
abbrev pub tables : RowState → List Table
tables r = tables_of r (all (width r))

unfoldable pub normalized : List ℕ → List ℕ → RowState → Written
normalized prefix name r = record {
  files = map (table_file prefix r) (enumerate_from 1 (tables r));
  text = reports (name ∷ []) (r ∷ []) ++ tables_text (tables r) (alternates r (tables r));
}
