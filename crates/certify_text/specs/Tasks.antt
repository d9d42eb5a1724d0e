-- What `certify` does.
use Rattle.std.specs.Prelude.{ℕ, false, true, List, [], ◌∷◌}
use Rattle.rel_base.specs.declared.nulls.Nulls.TheVariants.{Equal}
use Rattle.rel_base.specs.RowState.{opened}
use Rattle.certify_text.specs.Certified.{Certifies}
use Rattle.task_base.specs.Reading.{readings}
use Rattle.task_base.specs.Task.{Task, first_of}

-- the report of a file, and a certificate of its covers in another
abbrev pub certify_task : ℕ → List ℕ → List ℕ → Task
certify_task workers name file = record {
  workers = workers;
  reads = readings (file ∷ []) [];
  reads_input = false;
  writes_files = true;
  writes = λ limits from w. Certifies name file (opened Equal limits.rows (first_of from.relations)) w;
}
