-- What a run writes, from the definitions of the relations that its files hold.
use Rattle.std.specs.Prelude.{if◌then◌else◌, ◌≡◌, ◌&&◌, nat_lt, ℕ, Bool, List, [], ◌∷◌, codes, length, Option, Some, None}
use Rattle.rel_base.specs.declared.limits.Limits.{Limits}
use Rattle.rel_base.specs.declared.why.Why.{Why}
use Rattle.rel_base.specs.declared.why.Why.TheVariants.{Bytes}
use Rattle.clap.specs.Walk.{Text}
use Rattle.ports.specs.Files.{Files, with_file}
use Rattle.ports.specs.Lists.{File}
use Rattle.report_text.specs.Outcome.{file_line}
use Rattle.cli_words.specs.declared.request.Request.{Request}
use Rattle.cli_words.specs.Command.{command}
use Rattle.profile_cli.specs.Contents.{first_refusal, or_else, sources_of}
use Rattle.profile_cli.specs.Task.{task_of}
use Rattle.cli_words.specs.Usage.{usage_text}
use Rattle.task_base.specs.Task.{Task}
use Rattle.task_base.specs.Written.{Written, text_alone}

-- what stands for the input where a line names it
abbrev pub input_name : List ℕ
input_name = codes "-"

-- an input that is read is refused as a whole if it has more bytes than the limit
abbrev pub input_refusal : Bool → Limits → List ℕ → Option (List ℕ × ℕ × Why)
input_refusal reads limits input = if reads && nat_lt limits.bytes (length input) then Some (input_name, 0, Bytes) else None

-- the first of all that a command reads that a rule refuses, with the record and the cause
abbrev pub refusal : Task → Limits → Files → List ℕ → Option (List ℕ × ℕ × Why)
refusal task limits held input = or_else (first_refusal limits held task.reads) (input_refusal task.reads_input limits input)

-- what a command may write where nothing is refused
abbrev pub written : Task → Limits → Files → List ℕ → Written → Type 0
written task limits held input = task.writes limits (sources_of held task.reads input)

-- what a run writes, and the status that it ends with
pub record Output : Type 0 where
  pub status : ℕ
  pub written : Written

-- one line
abbrev pub line_output : ℕ → List ℕ → Output
line_output status line = record { status = status; written = text_alone line }

-- the line of a refusal, or else one of the things that may be written where there is none
abbrev pub judged : Option (List ℕ × ℕ × Why) → (Written → Type 0) → Output → Type 0
judged None may o = (o.status ≡ 0) × may o.written
judged (Some r) may o = o ≡ line_output 3 (file_line r.0 r.1 r.2)

-- the usage line, or what the command writes
abbrev pub asked : Option Request → Limits → Files → List ℕ → Output → Type 0
asked None limits held input o = o ≡ line_output 2 usage_text
asked (Some request) limits held input o = judged (refusal (task_of request) limits held input) (written (task_of request) limits held input) o

-- THE OUTPUT of a run: whether it is this one, by its words, its limits, the files and the input, which is empty where it isn't read
unfoldable pub output : List Text → Limits → Files → List ℕ → Output → Type 0
output words limits held input o = asked (command words) limits held input o

-- a fact of an output of a run
abbrev pub SomeOutput : List Text → Limits → Files → List ℕ → (Output → Type 0) → Type 0
SomeOutput words limits held input P = (o : Output) × output words limits held input o × P o

-- files, but that these names hold these bytes: of two of one name the later one counts
unfoldable pub with_files : List File → Files → Files
with_files [] held = held
with_files (file ∷ files) held = with_files files (with_file file.0 file.1 held)
