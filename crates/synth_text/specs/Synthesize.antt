-- What `synthesize` writes: the report of a relation, its tables with their other keys, the references between them, and a file for each table.
use Rattle.std.specs.Prelude.{◌++◌, ℕ, List, [], ◌∷◌, map}
use Rattle.std.specs.List.{enumerate_from, flat_map}
use Rattle.col_set.specs.ColSet.{Columns}
use Rattle.rel_base.specs.declared.dependency.Table.{Table}
use Rattle.rel_base.specs.Covers.{covers}
use Rattle.rel_base.specs.RowState.{RowState, width}
use Rattle.synth_3nf.specs.declared.reference.Reference.{Reference}
use Rattle.synth_3nf.specs.References.{references}
use Rattle.synth_3nf.specs.Shorter.{shorter}
use Rattle.synth_3nf.specs.Tables.{synthesis}
use Rattle.table_files.specs.Files.{table_file}
use Rattle.table_files.specs.Keys.{all_keys, alternates}
use Rattle.report_text.specs.Tables.{reference_line, tables_text}
use Rattle.profile_text.specs.Reports.{reports}
use Rattle.task_base.specs.Written.{Written}

-- the tables that the minimal dependencies with so many columns on the left at most make, each with its key
unfoldable pub tables : ℕ → RowState → List Table
tables most r = synthesis (width r) (shorter most (covers r).fds)

-- the line of a reference
abbrev pub reference_line_of : Reference → List ℕ
reference_line_of reference = reference_line reference.from reference.columns reference.to

-- the lines of tables with these other keys, and of the references by all their keys
unfoldable pub tables_and_references : List Table → List (ℕ × Columns) → List (ℕ × Columns) → List ℕ
tables_and_references tables others keys = tables_text tables others ++ flat_map reference_line_of (references tables keys)

unfoldable pub synthesized : ℕ → List ℕ → List ℕ → RowState → Written
synthesized most prefix name r = record {
  files = map (table_file prefix r) (enumerate_from 1 (tables most r));
  text = reports (name ∷ []) (r ∷ []) ++ tables_and_references (tables most r) (alternates r (tables most r)) (all_keys r (tables most r));
}
