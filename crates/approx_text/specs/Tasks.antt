-- What `approx` does.
use Rattle.std.specs.Prelude.{◌≡◌, ℕ, false, List, [], ◌∷◌}
use Rattle.rel_base.specs.declared.nulls.Nulls.TheVariants.{Equal}
use Rattle.rel_base.specs.RowState.{opened}
use Rattle.approx_text.specs.Approximate.{approx_text}
use Rattle.task_base.specs.Reading.{readings}
use Rattle.task_base.specs.Task.{Task, first_of}
use Rattle.task_base.specs.Written.{text_alone}

-- the dependencies of a file that hold but for so many rows
abbrev pub approx_task : ℕ → List ℕ → Task
approx_task errors file = record {
  workers = 4;
  reads = readings (file ∷ []) [];
  reads_input = false;
  writes_files = false;
  writes = λ limits from w. w ≡ text_alone (approx_text errors file (opened Equal limits.rows (first_of from.relations)));
}
