-- What `check` does.
use Rattle.std.specs.Prelude.{◌≡◌, ℕ, false, List, [], ◌∷◌, slice_index_or}
use Rattle.rel_base.specs.declared.nulls.Nulls.TheVariants.{Equal}
use Rattle.rel_base.specs.RowState.{opened}
use Rattle.check_text.specs.Answers.{check_text}
use Rattle.task_base.specs.Reading.{readings}
use Rattle.task_base.specs.Task.{Task, first_of}
use Rattle.task_base.specs.Written.{text_alone}

-- the first of some texts
abbrev pub first_text : List (List ℕ) → List ℕ
first_text texts = slice_index_or texts 0 []

-- whether one file is a certificate of the covers of another
abbrev pub check_task : List ℕ → List ℕ → Task
check_task file certificate = record {
  workers = 4;
  reads = readings (file ∷ []) (certificate ∷ []);
  reads_input = false;
  writes_files = false;
  writes = λ limits from w. w ≡ text_alone (check_text (opened Equal limits.rows (first_of from.relations)) (first_text from.texts));
}
