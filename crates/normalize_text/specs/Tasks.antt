-- What `normalize` and `demo` do.
use Rattle.std.specs.Prelude.{◌≡◌, ℕ, true, false, List, [], ◌∷◌}
use Rattle.rel_base.specs.declared.nulls.Nulls.TheVariants.{Equal}
use Rattle.rel_base.specs.RowState.{opened}
use Rattle.normalize_text.specs.Demo.{demo_content, demo_text}
use Rattle.normalize_text.specs.Normalize.{normalized}
use Rattle.task_base.specs.Reading.{readings}
use Rattle.task_base.specs.Task.{Task, first_of}
use Rattle.task_base.specs.Written.{text_alone}

-- the report of a file, its tables, and a file for each table
abbrev pub normalize_task : ℕ → List ℕ → List ℕ → Task
normalize_task workers prefix file = record {
  workers = workers;
  reads = readings (file ∷ []) [];
  reads_input = false;
  writes_files = true;
  writes = λ limits from w. w ≡ normalized prefix file (opened Equal limits.rows (first_of from.relations));
}

-- the counts for the relation of a seed
abbrev pub demo_task : ℕ → ℕ → Task
demo_task workers seed = record {
  workers = workers;
  reads = [];
  reads_input = false;
  writes_files = false;
  writes = λ limits from w. w ≡ text_alone (demo_text seed (opened Equal limits.rows (demo_content seed)));
}
