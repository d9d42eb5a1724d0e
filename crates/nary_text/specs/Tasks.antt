-- What `nary` does.
use Rattle.std.specs.Prelude.{◌≡◌, ℕ, false, List, [], map}
use Rattle.rel_base.specs.declared.nulls.Nulls.TheVariants.{Equal}
use Rattle.rel_base.specs.RowState.{opened}
use Rattle.nary_text.specs.Inclusions.{nary_text}
use Rattle.task_base.specs.Reading.{readings}
use Rattle.task_base.specs.Task.{Task}
use Rattle.task_base.specs.Written.{text_alone}

-- the inclusions of lists of up to so many columns among these files
abbrev pub nary_task : ℕ → List (List ℕ) → Task
nary_task width files = record {
  workers = 4;
  reads = readings files [];
  reads_input = false;
  writes_files = false;
  writes = λ limits from w. w ≡ text_alone (nary_text width files (map (opened Equal limits.rows) from.relations));
}
