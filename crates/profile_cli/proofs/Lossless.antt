-- What `normalize` writes is a lossless split to normal form.
use Rattle.std.proofs.Common.{◌≡◌, ◌<◌, ℕ, Bool, true, false, cond, refl, sym, ap, subst, arith, List, [], ◌∷◌, length, Option, Some, None}
use Rattle.std.specs.Prelude.{IfSome, IsSomeAnd, nat_lt}
use Rattle.std.specs.List.{All, range_with_len}
use Rattle.rel_base.specs.declared.limits.Limits.{Limits}
use Rattle.rel_base.specs.declared.nulls.Nulls.TheVariants.{Equal}
use Rattle.rel_base.specs.declared.why.Why.{Why}
use Rattle.rel_base.specs.declared.why.Why.TheVariants.{Bytes}
use Rattle.rel_base.specs.Cells.{Row}
use Rattle.rel_base.specs.Relation.{IsContent}
use Rattle.rel_base.specs.RowState.{IsRowState, opened}
use Rattle.plain_base.proofs.Rows.{opened-state}
use Rattle.csv_load.specs.Records.{records_of}
use Rattle.csv_load.specs.Refusal.{refused_file, refused_records}
use Rattle.csv_load.proofs.FirstRefused.{accepted}
use Rattle.csv_load.proofs.Steps.{records_have_cells}
use Rattle.clap.specs.Walk.{Text}
use Rattle.ports.specs.Files.{Files, bytes_of}
use Rattle.cli_words.specs.Command.{command}
use Rattle.cli_words.specs.declared.request.Request.{Request}
use Rattle.cli_words.specs.declared.request.Request.TheVariants.{Certify, Normalize}
use Rattle.certify_text.specs.Certified.{Certifies}
use Rattle.normalize_text.specs.Joined.{AreLosslessTables}
use Rattle.normalize_text.specs.Normalize.{normalized}
use Rattle.normalize_text.proofs.Joined.{lossless_tables}
use Rattle.profile_cli.specs.Contents.{file_content, first_refusal, named, or_else}
use Rattle.profile_cli.specs.Ends.{IsWhole, OnSources}
use Rattle.profile_cli.specs.Outcomes.{OnDone}
use Rattle.profile_cli.specs.Output.{Output, SomeOutput, asked, judged, output, refusal, written}
use Rattle.profile_cli.specs.Task.{task_of}
use Rattle.profile_cli.specs.declared.outcome.Outcome.{Outcome}
use Rattle.profile_cli.proofs.Ends.{OnDone-map}
use Rattle.task_base.proofs.Facts.{IfSome-map}
use Rattle.task_base.specs.Task.{content_of}
use Rattle.task_base.specs.Written.{Written}

-- records that are accepted are a relation within the limits
accepted_records : (limits : Limits) (records : List Row) → All (λ row. 0 < length row) records → refused_records limits records ≡ None → IsContent (content_of records)
unfolding refused_records
accepted_records limits [] cells none = cc
accepted_records limits (names ∷ rows) cells none =
    let within = accepted limits (record { names = names; rows = rows }) none in
    let narrow = within.columns in
    let most = limits.few_columns in
    let short = within.rows in
    let many = limits.few_rows in
    record { some = cells 0 names (omega arith); narrow = omega arith; widths = within.widths; short = omega arith }

-- so is a file that is accepted
accepted_file : (limits : Limits) (bytes : List ℕ) → refused_file limits bytes ≡ None → refused_records limits (records_of bytes) ≡ None
unfolding refused_file
accepted_file limits bytes none = by (nat_lt limits.bytes (length bytes)) none
  where
    by : (b : Bool) → cond b (Some (0, Bytes)) (refused_records limits (records_of bytes)) ≡ None → refused_records limits (records_of bytes) ≡ None
    by true none = cc
    by false none = none

state : (limits : Limits) (bytes : List ℕ) → refused_file limits bytes ≡ None → IsRowState (opened Equal limits.rows (file_content bytes))
state limits bytes none =
    let c = file_content bytes in
    opened-state Equal limits.rows c c.names c.rows (range_with_len 1 (length c.rows)) (accepted_records limits (records_of bytes) (records_have_cells bytes) (accepted_file limits bytes none)) limits.few_rows refl refl refl

-- what has the status 0 isn't refused
unrefused : (r : Option (List ℕ × ℕ × Why)) (may : Written → Type 0) (o : Output) → judged r may o → o.status ≡ 0 → (r ≡ None) × may o.written
unrefused None may o is zero = (refl, is.1)
unrefused (Some r) may o is zero = let three : o.status ≡ 3 = ap (λ (x : Output). x.status) is in absurd (omega arith)

unnamed : (file : List ℕ) (r : Option (ℕ × Why)) → or_else (or_else (named file r) None) None ≡ None → r ≡ None
unnamed file None e = refl
unnamed file (Some r) e = cc

pub lossless : (words : List Text) (workers : ℕ) (prefix file : List ℕ) (limits : Limits) (files : Files) (input : List ℕ) (o : Output) → command words ≡ Some (Normalize workers prefix file)
    → output words limits files input o → o.status ≡ 0 → AreLosslessTables (opened Equal limits.rows (file_content (bytes_of files file))) o.written.files
unfolding output task_of first_refusal
lossless words workers prefix file limits files input o is out zero =
    let request = Normalize workers prefix file in
    let told : judged (refusal (task_of request) limits files input) (written (task_of request) limits files input) o = subst (λ (c : Option Request). asked c limits files input o) is out in
    let known = unrefused (refusal (task_of request) limits files input) (written (task_of request) limits files input) o told zero in
    let bytes = bytes_of files file in
    let none : refused_file limits bytes ≡ None = unnamed file (refused_file limits bytes) known.0 in
    let r = opened Equal limits.rows (file_content bytes) in
    let made : o.written ≡ normalized prefix file r = known.1 in
    subst (λ (w : Written). AreLosslessTables r w.files) (sym made) (lossless_tables prefix file r (state limits bytes none) refl)

-- what `certify` writes
pub certified : (words : List Text) (workers : ℕ) (name file : List ℕ) (limits : Limits) (files : Files) (input : List ℕ) (o : Output) → command words ≡ Some (Certify workers name file)
    → output words limits files input o → o.status ≡ 0 → Certifies name file (opened Equal limits.rows (file_content (bytes_of files file))) o.written
unfolding output task_of first_refusal
certified words workers name file limits files input o is out zero =
    let request = Certify workers name file in
    let told : judged (refusal (task_of request) limits files input) (written (task_of request) limits files input) o = subst (λ (c : Option Request). asked c limits files input o) is out in
    (unrefused (refusal (task_of request) limits files input) (written (task_of request) limits files input) o told zero).1

-- a run that is done has written such files
pub written_tables : (words : List Text) (workers : ℕ) (prefix file : List ℕ) (limits : Limits) (content content' : Option Files) (input before now : Option (List ℕ)) (end : Outcome)
    → command words ≡ Some (Normalize workers prefix file)
    → OnDone end (IsSomeAnd (command words) (λ request. OnSources (task_of request) content input (λ files bytes. SomeOutput words limits files bytes (λ o. (o.status ≡ 0) × IsWhole o.written content content' before now))))
    → OnDone end (IfSome content (λ files. (w : Written) × IsWhole w content content' before now × AreLosslessTables (opened Equal limits.rows (file_content (bytes_of files file))) w.files))
unfolding task_of
written_tables words workers prefix file limits content content' input before now end is done =
    OnDone-map end (IsSomeAnd (command words) Told) (IfSome content Tables) (λ told. IfSome-map content each (subst (λ (c : Option Request). IsSomeAnd c Told) is told)) done
  where
    Told : Request → Type 0
    Told request = OnSources (task_of request) content input (λ files bytes. SomeOutput words limits files bytes (λ o. (o.status ≡ 0) × IsWhole o.written content content' before now))

    Tables : Files → Type 0
    Tables files = (w : Written) × IsWhole w content content' before now × AreLosslessTables (opened Equal limits.rows (file_content (bytes_of files file))) w.files

    each : (files : Files) → SomeOutput words limits files [] (λ o. (o.status ≡ 0) × IsWhole o.written content content' before now) → Tables files
    each files k = (k.0.written, k.2.1, lossless words workers prefix file limits files [] k.0 is k.1 k.2.0)
