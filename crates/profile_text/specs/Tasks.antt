-- What `profile` and `session` do.
use Rattle.std.specs.Prelude.{◌≡◌, ℕ, true, false, List, [], ◌∷◌, map}
use Rattle.rel_base.specs.declared.nulls.Nulls.{Nulls}
use Rattle.rel_base.specs.RowState.{opened}
use Rattle.profile_text.specs.Reports.{reports}
use Rattle.profile_text.specs.Session.{session_text}
use Rattle.task_base.specs.Reading.{readings}
use Rattle.task_base.specs.Task.{Task, first_of}
use Rattle.task_base.specs.Written.{text_alone}

-- the reports of these files and the inclusions among all their columns
abbrev pub profile_task : ℕ → Nulls → List (List ℕ) → Task
profile_task workers nulls files = record {
  workers = workers;
  reads = readings files [];
  reads_input = false;
  writes_files = false;
  writes = λ limits from w. w ≡ text_alone (reports files (map (opened nulls limits.rows) from.relations));
}

-- the answers to the change text that the input is
abbrev pub session_task : ℕ → Nulls → List ℕ → Task
session_task workers nulls file = record {
  workers = workers;
  reads = readings (file ∷ []) [];
  reads_input = true;
  writes_files = false;
  writes = λ limits from w. w ≡ text_alone (session_text file (opened nulls limits.rows (first_of from.relations)) limits from.input);
}
