-- What `synthesize` does.
use Rattle.std.specs.Prelude.{◌≡◌, ℕ, true, false, List, [], ◌∷◌}
use Rattle.rel_base.specs.declared.nulls.Nulls.TheVariants.{Equal}
use Rattle.rel_base.specs.RowState.{opened}
use Rattle.synth_text.specs.Synthesize.{synthesized}
use Rattle.task_base.specs.Reading.{readings}
use Rattle.task_base.specs.Task.{Task, first_of}

-- the report of a file, the tables of its dependencies with so many columns on the left at most, and a file for each table
abbrev pub synthesize_task : ℕ → ℕ → List ℕ → List ℕ → Task
synthesize_task workers most prefix file = record {
  workers = workers;
  reads = readings (file ∷ []) [];
  reads_input = false;
  writes_files = true;
  writes = λ limits from w. w ≡ synthesized most prefix file (opened Equal limits.rows (first_of from.relations));
}
