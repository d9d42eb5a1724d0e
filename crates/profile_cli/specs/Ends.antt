-- What each end of a run says of the outside, for any command.
use Rattle.std.specs.Prelude.{◌≡◌, ◌⊎◌, ◌<◌, ◌≤◌, ◌+◌, ℕ, Bool, true, false, List, [], length, take, slice_index_or, Option, Some, None, IfSome, Result, Ok, Err, ⊤}
use Rattle.std.specs.Option.{option_map}
use Rattle.rel_base.specs.declared.limits.Limits.{Limits}
use Rattle.rel_base.specs.declared.why.Why.{Why}
use Rattle.rel_base.specs.declared.why.Why.TheVariants.{Bytes}
use Rattle.rel_base.specs.Relation.{Content}
use Rattle.ports.specs.Bytes.{Gains, IsUsedUp, Moves}
use Rattle.ports.specs.Faults.{Counts, Rose, RoseAt, SameFaults}
use Rattle.ports.specs.Files.{Files, bytes_of}
use Rattle.ports.specs.Lists.{File, file_at}
use Rattle.ports.specs.Whole.{Puts, Stores, put_failed}
use Rattle.ports.specs.declared.putting.Putting.{Putting}
use Rattle.ports.specs.declared.whole_files.Storing.{Storing}
use Rattle.ports.specs.declared.whole_files.Storing.TheVariants.{Stored, Failed}
use Rattle.report_text.specs.Outcome.{file_line, fault_line}
use Rattle.profile_cli.specs.Contents.{first_refusal, refused_as}
use Rattle.task_base.specs.Reading.{Reading, no_reading}
use Rattle.task_base.specs.Task.{Task}
use Rattle.task_base.specs.Written.{Written}
use Rattle.profile_cli.specs.Output.{input_name, input_refusal, refusal, with_files, written}
use Rattle.profile_cli.specs.declared.outcome.Outcome.{Outcome}
use Rattle.profile_cli.specs.declared.outcome.Outcome.TheVariants.{Done, Usage, Refused, ReadFault, WriteFault, NoMemory}

-- ---- what the files and the input hold, as far as it is told
-- A fact of the bytes of the input, where it is read and told. No bytes stand for an input that isn't read.
abbrev pub OnInput : Bool → Option (List ℕ) → (List ℕ → Type 0) → Type 0
OnInput true input P = IfSome input P
OnInput false input P = P []

-- a fact of what the files hold and of those bytes
abbrev pub OnSources : Task → Option Files → Option (List ℕ) → (Files → List ℕ → Type 0) → Type 0
OnSources task content input P = IfSome content (λ files. OnInput task.reads_input input (P files))

-- these are the bytes of the input, or none where it isn't read
abbrev pub IsInput : Bool → Option (List ℕ) → List ℕ → Type 0
IsInput true input bytes = input ≡ Some bytes
IsInput false input bytes = bytes ≡ []

-- the input was read to its end, if it is read at all
abbrev pub IsReadThrough : Bool → Option (List ℕ) → Type 0
IsReadThrough true left = IsUsedUp left
IsReadThrough false left = ⊤

-- facts of the first refusal and of what may be written
abbrev pub Fact : Type 1
Fact = Option (List ℕ × ℕ × Why) → (Written → Type 0) → Type 0

-- such a fact
abbrev pub OnTold : Task → Limits → Option Files → Option (List ℕ) → Fact → Type 0
OnTold task limits content input P = OnSources task content input (λ files bytes. P (refusal task limits files bytes) (written task limits files bytes))

-- such a fact where the files are accepted and hold these relations and these texts
abbrev pub OnRead : Task → Limits → List Content → List (List ℕ) → Option (List ℕ) → Fact → Type 0
OnRead task limits relations texts input P =
    OnInput task.reads_input input (λ bytes. P (input_refusal task.reads_input limits bytes) (task.writes limits (record { relations = relations; texts = texts; input = bytes })))

-- such a fact of what was made, where nothing is refused
abbrev pub OnMade : {E : Type 0} → Result Written E → Fact → Type 0
OnMade (Ok w) P = P None (λ made. made ≡ w)
OnMade (Err e) P = ⊥

-- a fact of something that may be written
abbrev pub SomeWritten : (Written → Type 0) → (Written → Type 0) → Type 0
SomeWritten may P = (w : Written) × may w × P w

-- ---- what stands on the sink and on the shelf
-- A text was put on a sink: all of it, or where the sink's count rose, some first bytes.
pub record IsPut (text : List ℕ) (before now : Option (List ℕ)) (faults faults' : ℕ) : Type 0 where
  pub answer : Putting
  pub puts : Puts answer text before now
  pub counted : Counts (put_failed answer) faults faults'

-- all was written: the files in their order, and the text
pub record IsWhole (w : Written) (content content' : Option Files) (before now : Option (List ℕ)) : Type 0 where
  pub files : content' ≡ option_map (with_files w.files) content
  pub text : Gains before now w.text

-- the files stay as they were, and no call that writes one failed
pub record IsUnwritten {S : Type 0} (content content' : Option Files) (faults : S → ℕ) (last : S → Option (List ℕ)) (old new : S) : Type 0 where
  pub files : content' ≡ content
  pub shelf : SameFaults faults last old new

-- A call that writes the file at some place failed, and the shelf names it: those before it are whole, it is as it was or holds some first bytes,
-- and the others are as they were.
pub record StopsAt {S : Type 0} (files : List File) (content content' : Option Files) (faults : S → ℕ) (last : S → Option (List ℕ)) (old new : S) : Type 0 where
  pub place : ℕ
  pub within : place < length files
  pub shelf : RoseAt (file_at files place).0 faults last old new
  pub files_are : Stores Failed (file_at files place).0 (file_at files place).1 (option_map (with_files (take place files)) content) content'

-- the files were written, or one of them failed
abbrev pub StoresAll : {S : Type 0} → Storing → List File → Option Files → Option Files → (S → ℕ) → (S → Option (List ℕ)) → S → S → Type 0
StoresAll Stored files content content' faults last old new = (content' ≡ option_map (with_files files) content) × SameFaults faults last old new
StoresAll Failed files content content' faults last old new = StopsAt files content content' faults last old new

-- writing failed at a file, and nothing was put on the sink
pub record StopsAtFile {S : Type 0} (w : Written) (content content' : Option Files) (before now : Option (List ℕ)) (sink sink' : ℕ)
    (faults : S → ℕ) (last : S → Option (List ℕ)) (old new : S) : Type 0 where
  pub file : StopsAt w.files content content' faults last old new
  pub text : now ≡ before
  pub sink_count : sink' ≡ sink

-- the files are whole, the sink failed, and some first bytes of the text were put on it
pub record StopsAtSink {S : Type 0} (w : Written) (content content' : Option Files) (before now : Option (List ℕ)) (sink sink' : ℕ)
    (faults : S → ℕ) (last : S → Option (List ℕ)) (old new : S) : Type 0 where
  pub files : content' ≡ option_map (with_files w.files) content
  pub shelf : SameFaults faults last old new
  pub count : ℕ
  pub text : Gains before now (take count w.text)
  pub sink_count : Rose sink sink'

-- one of both
abbrev pub Stops : {S : Type 0} → Written → Option Files → Option Files → Option (List ℕ) → Option (List ℕ) → ℕ → ℕ → (S → ℕ) → (S → Option (List ℕ))
    → S → S → Type 0
Stops w content content' before now sink sink' faults last old new =
    StopsAtFile w content content' before now sink sink' faults last old new ⊎ StopsAtSink w content content' before now sink sink' faults last old new

-- ---- what a run comes to
-- What each end says of the first refusal, of what may be written and of what was written. `M` says what is known of the first two.
abbrev pub Runs : {S : Type 0} → (Fact → Type 0) → Outcome → Option Files → Option Files → Option (List ℕ)
    → Option (List ℕ) → ℕ → ℕ
    → (S → ℕ) → (S → Option (List ℕ)) → S → S → Type 0
Runs M Done content content' before now sink sink' faults last old new =
    M (λ r may. (r ≡ None) × SomeWritten may (λ w. IsWhole w content content' before now)) × (sink' ≡ sink) × SameFaults faults last old new
Runs M Usage content content' before now sink sink' faults last old new = ⊥
Runs M (Refused file rec why) content content' before now sink sink' faults last old new =
    M (λ r may. r ≡ Some (file, rec, why)) × IsPut (file_line file rec why) before now sink sink' × IsUnwritten content content' faults last old new
Runs M (ReadFault file) content content' before now sink sink' faults last old new =
    IsPut (fault_line file) before now sink sink' × IsUnwritten content content' faults last old new
Runs M WriteFault content content' before now sink sink' faults last old new =
    M (λ r may. (r ≡ None) × SomeWritten may (λ w. Stops w content content' before now sink sink' faults last old new))
    × (Rose sink sink' ⊎ Rose (faults old) (faults new))
Runs M NoMemory content content' before now sink sink' faults last old new = (now ≡ before) × (sink' ≡ sink) × IsUnwritten content content' faults last old new

-- The end is this one, and its line was put on the sink, or memory ran out before.
abbrev pub EndsWith : Outcome → Outcome → List ℕ → Option (List ℕ) → Option (List ℕ) → ℕ → ℕ → Type 0
EndsWith NoMemory wanted line before now faults faults' = (now ≡ before) × (faults' ≡ faults)
EndsWith Done wanted line before now faults faults' = (Done ≡ wanted) × IsPut line before now faults faults'
EndsWith Usage wanted line before now faults faults' = (Usage ≡ wanted) × IsPut line before now faults faults'
EndsWith (Refused file rec why) wanted line before now faults faults' = (Refused file rec why ≡ wanted) × IsPut line before now faults faults'
EndsWith (ReadFault file) wanted line before now faults faults' = (ReadFault file ≡ wanted) × IsPut line before now faults faults'
EndsWith WriteFault wanted line before now faults faults' = (WriteFault ≡ wanted) × IsPut line before now faults faults'

-- ---- where a run ends before it writes
-- This file is one of those that are read, no file before it is refused, and none behind it was opened: so many files were opened at most as there are
-- up to it.
pub record IsReached (limits : Limits) (content : Option Files) (reads : List Reading) (file : List ℕ) (opens opens' : ℕ) : Type 0 where
  pub place : ℕ
  pub within : place < length reads
  pub name : (slice_index_or reads place no_reading).0 ≡ file
  pub accepted : IfSome content (λ files. first_refusal limits files (take place reads) ≡ None)
  pub opened : opens' ≤ opens + (place + 1)

-- This file is the first that a rule refuses, and the input was left as it was.
pub record IsFileRefusal {I : Type 0} (limits : Limits) (content : Option Files) (task : Task) (file : List ℕ) (rec : ℕ) (why : Why)
    (input input' : I) (opens opens' : ℕ) : Type 0 where
  pub reached : IsReached limits content task.reads file opens opens'
  pub refused : IfSome content (λ files. refused_as (slice_index_or task.reads reached.place no_reading).1 limits (bytes_of files file) ≡ Some (rec, why))
  pub unread : input' ≡ input

-- The input is too long, and no more of it was read than one byte behind the limit.
pub record IsInputRefusal (limits : Limits) (reads : Bool) (file : List ℕ) (rec : ℕ) (why : Why) (left left' : Option (List ℕ)) : Type 0 where
  pub reads_input : reads ≡ true
  pub name : file ≡ input_name
  pub whole : rec ≡ 0
  pub cause : why ≡ Bytes
  pub came : List ℕ
  pub count : length came ≡ limits.bytes + 1
  pub moved : Moves left left' came

-- A call on this file failed, and no file before it is refused. The input was left as it was.
pub record IsFileFault {S I : Type 0} (limits : Limits) (content : Option Files) (task : Task) (file : List ℕ) (faults : S → ℕ)
    (last : S → Option (List ℕ)) (old new : S) (input input' : I) (opens opens' : ℕ) : Type 0 where
  pub reached : IsReached limits content task.reads file opens opens'
  pub shelf : RoseAt file faults last old new
  pub unread : input' ≡ input

-- A call on the input failed, behind no more bytes than the limit.
pub record IsInputFault (limits : Limits) (reads : Bool) (file : List ℕ) (left left' : Option (List ℕ)) (count count' : ℕ) : Type 0 where
  pub reads_input : reads ≡ true
  pub name : file ≡ input_name
  pub rose : Rose count count'
  pub came : List ℕ
  pub few : length came ≤ limits.bytes
  pub moved : Moves left left' came

-- all files are accepted, and no call on one of them failed
pub record AreAccepted {S : Type 0} (limits : Limits) (content : Option Files) (reads : List Reading) (faults : S → ℕ)
    (last : S → Option (List ℕ)) (old new : S) : Type 0 where
  pub accepted : IfSome content (λ files. first_refusal limits files reads ≡ None)
  pub shelf : SameFaults faults last old new
