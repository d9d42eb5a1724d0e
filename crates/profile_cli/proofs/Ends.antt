-- What the ends of a run say.
use Rattle.std.proofs.Common.{◌≡◌, ◌∙◌, ◌⊎◌, inl, inr, ◌<◌, ◌≤◌, ℕ, Bool, true, false, cond, refl, sym, ap, subst, arith, List, [], length, get_or, Option, Some, None, Result, Ok, Err}
use Rattle.std.specs.Prelude.{IfOk, IfSome}
use Rattle.std.specs.Option.{option_map}
use Rattle.std.proofs.lemmas.Bool.{le-ltb, lt-ltb}
use Rattle.rel_base.specs.declared.limits.Limits.{Limits}
use Rattle.rel_base.specs.declared.why.Why.{Why}
use Rattle.rel_base.specs.declared.why.Why.TheVariants.{Bytes}
use Rattle.rel_base.specs.Relation.{Content}
use Rattle.clap.specs.Walk.{Text}
use Rattle.ports.specs.Faults.{Rose, RoseAt, SameFaults}
use Rattle.ports.specs.Files.{Files}
use Rattle.ports.specs.Lists.{file_at}
use Rattle.report_text.specs.Outcome.{file_line, fault_line}
use Rattle.profile_cli.specs.declared.outcome.Outcome.{Outcome}
use Rattle.profile_cli.specs.declared.outcome.Outcome.TheVariants.{Done, Usage, Refused, ReadFault, WriteFault, NoMemory}
use Rattle.cli_words.specs.declared.request.Request.{Request}
use Rattle.cli_words.specs.Command.{command}
use Rattle.profile_cli.specs.Contents.{contents_of, first_refusal, or_else, texts_of}
use Rattle.profile_cli.specs.Ends.{AreAccepted, EndsWith, Fact, IsFileFault, IsInput, IsInputFault, IsPut, IsUnwritten, IsWhole, OnInput, OnMade, OnRead, OnSources, OnTold, Runs, SomeWritten, Stops, StopsAtFile, StopsAtSink}
use Rattle.profile_cli.specs.Outcomes.{IfReadFault, IfRefused, IsDoneOrNoMemory, IsRefusedOrNoMemory, IsWritingEnd, OnDone, OnNoMemory, OnUsage, OnWriteFault, UnlessFaulted, UnlessWritten}
use Rattle.profile_cli.specs.Output.{Output, SomeOutput, asked, input_name, input_refusal, judged, output, refusal, with_files, written}
use Rattle.profile_cli.specs.Task.{task_of}
use Rattle.task_base.specs.Reading.{no_reading}
use Rattle.task_base.specs.Task.{Sources, Task}
use Rattle.task_base.specs.Written.{Written}

pub some_same : {X : Type 0} (x y : X) → Some x ≡ Some y → x ≡ y
some_same x y e = cc

pub none_is_some : {X : Type 0} (x : X) → None ≡ Some x → ⊥
none_is_some x e = cc

-- ---- a run that ends with a line
module _ (o wanted : Outcome) (line : List ℕ) (before now : Option (List ℕ)) (faults faults' : ℕ) where
  -- where memory ran out nothing was written, and else the line was put
  pub ends_put : (P : Outcome → Type 0) → EndsWith o wanted line before now faults faults' → ((now ≡ before) × (faults' ≡ faults) → P NoMemory) → (IsPut line before now faults faults' → P wanted) → P o
  ends_put P e memory here = by o e
    where
      by : (x : Outcome) → EndsWith x wanted line before now faults faults' → P x
      by NoMemory e = memory e
      by Done e = subst P (sym e.0) (here e.1)
      by Usage e = subst P (sym e.0) (here e.1)
      by (Refused file rec why) e = subst P (sym e.0) (here e.1)
      by (ReadFault file) e = subst P (sym e.0) (here e.1)
      by WriteFault e = subst P (sym e.0) (here e.1)

-- ---- facts of ends
pub OnDone-always : (o : Outcome) (P : Type 0) → P → OnDone o P
OnDone-always Done P p = p
OnDone-always Usage P p = tt
OnDone-always (Refused file rec why) P p = tt
OnDone-always (ReadFault file) P p = tt
OnDone-always WriteFault P p = tt
OnDone-always NoMemory P p = tt

pub OnDone-map : (o : Outcome) (P Q : Type 0) → (P → Q) → OnDone o P → OnDone o Q
OnDone-map Done P Q f p = f p
OnDone-map Usage P Q f p = tt
OnDone-map (Refused file rec why) P Q f p = tt
OnDone-map (ReadFault file) P Q f p = tt
OnDone-map WriteFault P Q f p = tt
OnDone-map NoMemory P Q f p = tt

pub OnWriteFault-map : (o : Outcome) (P Q : Type 0) → (P → Q) → OnWriteFault o P → OnWriteFault o Q
OnWriteFault-map Done P Q f p = tt
OnWriteFault-map Usage P Q f p = tt
OnWriteFault-map (Refused file rec why) P Q f p = tt
OnWriteFault-map (ReadFault file) P Q f p = tt
OnWriteFault-map WriteFault P Q f p = f p
OnWriteFault-map NoMemory P Q f p = tt

pub UnlessFaulted-always : (o : Outcome) (P : Type 0) → P → UnlessFaulted o P
UnlessFaulted-always Done P p = p
UnlessFaulted-always Usage P p = p
UnlessFaulted-always (Refused file rec why) P p = p
UnlessFaulted-always (ReadFault file) P p = tt
UnlessFaulted-always WriteFault P p = p
UnlessFaulted-always NoMemory P p = tt

pub IfRefused-map : (o : Outcome) (P Q : List ℕ → ℕ → Why → Type 0) → ((file : List ℕ) (rec : ℕ) (why : Why) → P file rec why → Q file rec why) → IfRefused o P → IfRefused o Q
IfRefused-map Done P Q f p = tt
IfRefused-map Usage P Q f p = tt
IfRefused-map (Refused file rec why) P Q f p = f file rec why p
IfRefused-map (ReadFault file) P Q f p = tt
IfRefused-map WriteFault P Q f p = tt
IfRefused-map NoMemory P Q f p = tt

pub IfReadFault-map : (o : Outcome) (P Q : List ℕ → Type 0) → ((file : List ℕ) → P file → Q file) → IfReadFault o P → IfReadFault o Q
IfReadFault-map Done P Q f p = tt
IfReadFault-map Usage P Q f p = tt
IfReadFault-map (Refused file rec why) P Q f p = tt
IfReadFault-map (ReadFault file) P Q f p = f file p
IfReadFault-map WriteFault P Q f p = tt
IfReadFault-map NoMemory P Q f p = tt

pub IfRefused-writing : (o : Outcome) (P : List ℕ → ℕ → Why → Type 0) → IsWritingEnd o → IfRefused o P
IfRefused-writing Done P w = tt
IfRefused-writing Usage P w = absurd w
IfRefused-writing (Refused file rec why) P w = absurd w
IfRefused-writing (ReadFault file) P w = absurd w
IfRefused-writing WriteFault P w = tt
IfRefused-writing NoMemory P w = tt

pub IfReadFault-writing : (o : Outcome) (P : List ℕ → Type 0) → IsWritingEnd o → IfReadFault o P
IfReadFault-writing Done P w = tt
IfReadFault-writing Usage P w = absurd w
IfReadFault-writing (Refused file rec why) P w = absurd w
IfReadFault-writing (ReadFault file) P w = absurd w
IfReadFault-writing WriteFault P w = tt
IfReadFault-writing NoMemory P w = tt

-- ---- what is known of the first refusal and of what may be written
abbrev pub Refusal : Type 0
Refusal = Option (List ℕ × ℕ × Why)

-- one fact follows from another, where what may be written by the one may be by the other
abbrev pub Follows : Fact → Fact → Type 1
Follows P Q = (r : Refusal) (V W : Written → Type 0) → ((w : Written) → V w → W w) → P r V → Q r W

SomeWritten-map : (V W P Q : Written → Type 0) → ((w : Written) → V w → W w) → ((w : Written) → P w → Q w) → SomeWritten V P → SomeWritten W Q
SomeWritten-map V W P Q f g k = (k.0, f k.0 k.1, g k.0 k.2)

OnInput-map : (reads : Bool) (input : Option (List ℕ)) (P Q : List ℕ → Type 0) → ((bytes : List ℕ) → P bytes → Q bytes) → OnInput reads input P → OnInput reads input Q
OnInput-map true None P Q f p = tt
OnInput-map true (Some bytes) P Q f p = f bytes p
OnInput-map false input P Q f p = f [] p

OnInput-always : (reads : Bool) (input : Option (List ℕ)) (P : List ℕ → Type 0) → ((bytes : List ℕ) → P bytes) → OnInput reads input P
OnInput-always true None P f = tt
OnInput-always true (Some bytes) P f = f bytes
OnInput-always false input P f = f []

-- what the files hold was read
pub OnTold-read : (task : Task) (limits : Limits) (content : Option Files) (input : Option (List ℕ)) (relations : List Content) (texts : List (List ℕ))
    → IfSome content (λ held. (first_refusal limits held task.reads ≡ None) × (relations ≡ contents_of held task.reads) × (texts ≡ texts_of held task.reads))
    → (P Q : Fact) → Follows P Q → OnRead task limits relations texts input P → OnTold task limits content input Q
OnTold-read task limits None input relations texts k P Q f r = tt
OnTold-read task limits (Some held) input relations texts k P Q f r =
    OnInput-map task.reads_input input (λ bytes. P (input_refusal task.reads_input limits bytes) (task.writes limits (from relations texts bytes))) (λ bytes. Q (refusal task limits held bytes) (written task limits held bytes))
    (λ bytes p.
    subst (λ (x : Refusal). Q (or_else x (input_refusal task.reads_input limits bytes)) (written task limits held bytes)) (sym k.0)
    (subst (λ (rs : List Content). Q (input_refusal task.reads_input limits bytes) (task.writes limits (from rs (texts_of held task.reads) bytes))) k.1
    (subst (λ (ts : List (List ℕ)). Q (input_refusal task.reads_input limits bytes) (task.writes limits (from relations ts bytes))) k.2
    (f (input_refusal task.reads_input limits bytes) (task.writes limits (from relations texts bytes)) (task.writes limits (from relations texts bytes)) (λ w may. may) p)))) r
  where
    from : List Content → List (List ℕ) → List ℕ → Sources
    from relations texts input = record { relations = relations; texts = texts; input = input }

-- a file is refused
pub OnTold-refused : (task : Task) (limits : Limits) (content : Option Files) (input : Option (List ℕ)) (file : List ℕ) (rec : ℕ) (why : Why)
    → IfSome content (λ held. first_refusal limits held task.reads ≡ Some (file, rec, why)) → OnTold task limits content input (λ r may. r ≡ Some (file, rec, why))
OnTold-refused task limits None input file rec why k = tt
OnTold-refused task limits (Some held) input file rec why k =
    OnInput-always task.reads_input input (λ bytes. refusal task limits held bytes ≡ Some (file, rec, why)) (λ bytes. ap (λ (x : Refusal). or_else x (input_refusal task.reads_input limits bytes)) k)

module _ {E : Type 0} (task : Task) (limits : Limits) (relations : List Content) (texts : List (List ℕ)) (input : Option (List ℕ)) (made : Result Written E) (P Q : Fact) where
  abbrev From : List ℕ → Sources
  From bytes = record { relations = relations; texts = texts; input = bytes }

  abbrev At : Bool → Type 0
  At b = OnInput b input (λ bytes. Q (input_refusal b limits bytes) (task.writes limits (From bytes)))

  -- what was made may be written
  of_made : (bytes : List ℕ) → IfOk made (task.writes limits (From bytes)) → Follows P Q → OnMade made P → Q None (task.writes limits (From bytes))
  of_made bytes known f p = by made known p
    where
      by : (m : Result Written E) → IfOk m (task.writes limits (From bytes)) → OnMade m P → Q None (task.writes limits (From bytes))
      by (Ok w) known p = f None (λ v. v ≡ w) (task.writes limits (From bytes)) (λ v e. subst (task.writes limits (From bytes)) (sym e) known) p
      by (Err e) known p = absurd p

  -- the input isn't read
  pub OnRead-unread : task.reads_input ≡ false → IfOk made (task.writes limits (From [])) → Follows P Q → OnMade made P → OnRead task limits relations texts input Q
  OnRead-unread unread known f p = subst At (sym unread) (of_made [] known f p)

  -- the input was read to its end
  pub OnRead-loaded : task.reads_input ≡ true → (bytes : List ℕ) → IfSome input (λ all. (bytes ≡ all) × (length all ≤ limits.bytes)) → IfOk made (task.writes limits (From bytes)) → Follows P Q
      → OnMade made P → OnRead task limits relations texts input Q
  OnRead-loaded reads bytes k known f p = subst At (sym reads) (at input k)
    where
      at : (i : Option (List ℕ)) → IfSome i (λ all. (bytes ≡ all) × (length all ≤ limits.bytes)) → IfSome i (λ all. Q (input_refusal true limits all) (task.writes limits (From all)))
      at None k = tt
      at (Some all) k =
          subst (λ (b : Bool). Q (cond b (Some (input_name, 0, Bytes)) None) (task.writes limits (From all))) (sym (le-ltb limits.bytes (length all) k.1))
          (subst (λ (xs : List ℕ). Q None (task.writes limits (From xs))) k.0 (of_made bytes known f p))

-- the input is too long
pub OnRead-long : (task : Task) (limits : Limits) (relations : List Content) (texts : List (List ℕ)) (input : Option (List ℕ)) → task.reads_input ≡ true → IfSome input (λ all. limits.bytes < length all)
    → OnRead task limits relations texts input (λ r may. r ≡ Some (input_name, 0, Bytes))
OnRead-long task limits relations texts input reads k =
    subst (λ (b : Bool). OnInput b input (λ bytes. input_refusal b limits bytes ≡ Some (input_name, 0, Bytes))) (sym reads) (at input k)
  where
    at : (i : Option (List ℕ)) → IfSome i (λ all. limits.bytes < length all) → IfSome i (λ all. input_refusal true limits all ≡ Some (input_name, 0, Bytes))
    at None k = tt
    at (Some all) k = ap (λ (b : Bool). cond b (Some (input_name, 0, Bytes)) None) (lt-ltb limits.bytes (length all) k)

-- ---- shelves
module _ {S : Type 0} (faults : S → ℕ) (last : S → Option (List ℕ)) (a b new : S) (from : SameFaults faults last a b) where
  pub same_from : SameFaults faults last b new → SameFaults faults last a new
  same_from s = record { count = s.count ∙ from.count; name_is = s.name_is ∙ from.name_is }

  pub rose_from : Rose (faults b) (faults new) → Rose (faults a) (faults new)
  rose_from r = subst (λ (n : ℕ). Rose n (faults new)) from.count r

  pub rose_at_from : (name : List ℕ) → RoseAt name faults last b new → RoseAt name faults last a new
  rose_at_from name r = record { count = rose_from r.count; name_is = r.name_is }

-- ---- the same run, seen from before what was read, and of what is known then
module _ {S : Type 0} (before now : Option (List ℕ)) (sink sink' : ℕ) (faults : S → ℕ) (last : S → Option (List ℕ)) (a b new : S) (from : SameFaults faults last a b) where
  unwritten_from : (content content' : Option Files) → IsUnwritten content content' faults last b new → IsUnwritten content content' faults last a new
  unwritten_from content content' u = record { files = u.files; shelf = same_from faults last a b new from u.shelf }

  stops_from : (w : Written) (content content' : Option Files)
      → StopsAtFile w content content' before now sink sink' faults last b new ⊎ StopsAtSink w content content' before now sink sink' faults last b new
      → StopsAtFile w content content' before now sink sink' faults last a new ⊎ StopsAtSink w content content' before now sink sink' faults last a new
  stops_from w content content' (inl s) = inl (record {
    file = record { place = s.file.place; within = s.file.within; shelf = rose_at_from faults last a b new from _ s.file.shelf; files_are = s.file.files_are };
    text = s.text;
    sink_count = s.sink_count;
  })
  stops_from w content content' (inr s) = inr (record { files = s.files; shelf = same_from faults last a b new from s.shelf; count = s.count; text = s.text; sink_count = s.sink_count })

  rose_either : Rose sink sink' ⊎ Rose (faults b) (faults new) → Rose sink sink' ⊎ Rose (faults a) (faults new)
  rose_either (inl r) = inl r
  rose_either (inr r) = inr (rose_from faults last a b new from r)

  pub Runs-from : (M N : Fact → Type 0) → ((P Q : Fact) → Follows P Q → M P → N Q) → (content content' : Option Files) (o : Outcome)
      → Runs M o content content' before now sink sink' faults last b new → Runs N o content content' before now sink sink' faults last a new
  Runs-from M N f content content' Done r =
      let Whole : Written → Type 0 = λ w. IsWhole w content content' before now in
      (f (λ x V. (x ≡ None) × SomeWritten V Whole) (λ x W. (x ≡ None) × SomeWritten W Whole) (λ x V W sub p. (p.0, SomeWritten-map V W Whole Whole sub (λ w h. h) p.1)) r.0, r.1, same_from faults last a b new from r.2)
  Runs-from M N f content content' Usage r = r
  Runs-from M N f content content' (Refused file rec why) r =
      (f (λ x V. x ≡ Some (file, rec, why)) (λ x W. x ≡ Some (file, rec, why)) (λ x V W sub p. p) r.0, r.1, unwritten_from content content' r.2)
  Runs-from M N f content content' (ReadFault file) r = (r.0, unwritten_from content content' r.1)
  Runs-from M N f content content' WriteFault r =
      let Then : Written → Type 0 = λ w. Stops w content content' before now sink sink' faults last b new in
      let Now : Written → Type 0 = λ w. Stops w content content' before now sink sink' faults last a new in
      (f (λ x V. (x ≡ None) × SomeWritten V Then) (λ x W. (x ≡ None) × SomeWritten W Now) (λ x V W sub p. (p.0, SomeWritten-map V W Then Now sub (λ w h. stops_from w content content' h) p.1)) r.0, rose_either r.1)
  Runs-from M N f content content' NoMemory r = (r.0, r.1, unwritten_from content content' r.2)

-- ---- a run that ends with a line, as a run
module _ {S : Type 0} (M : Fact → Type 0) (o : Outcome) (content content' : Option Files) (before now : Option (List ℕ)) (sink sink' : ℕ) (faults : S → ℕ) (last : S → Option (List ℕ)) (old new : S)
    (unwritten : IsUnwritten content content' faults last old new) where
  pub Runs-refused : (file : List ℕ) (rec : ℕ) (why : Why) → EndsWith o (Refused file rec why) (file_line file rec why) before now sink sink'
      → M (λ r may. r ≡ Some (file, rec, why)) → Runs M o content content' before now sink sink' faults last old new
  Runs-refused file rec why e known =
      ends_put o (Refused file rec why) (file_line file rec why) before now sink sink' (λ x. Runs M x content content' before now sink sink' faults last old new) e
      (λ nothing. (nothing.0, nothing.1, unwritten)) (λ put. (known, put, unwritten))

  pub Runs-fault : (file : List ℕ) → EndsWith o (ReadFault file) (fault_line file) before now sink sink' → Runs M o content content' before now sink sink' faults last old new
  Runs-fault file e =
      ends_put o (ReadFault file) (fault_line file) before now sink sink' (λ x. Runs M x content content' before now sink sink' faults last old new) e
      (λ nothing. (nothing.0, nothing.1, unwritten)) (λ put. (put, unwritten))

-- ---- no files
option_map-with_none : (content : Option Files) → option_map (with_files []) content ≡ content
unfolding with_files
option_map-with_none None = refl
option_map-with_none (Some held) = refl

module _ {S : Type 0} (content content' : Option Files) (before now : Option (List ℕ)) (sink sink' : ℕ) (faults : S → ℕ) (last : S → Option (List ℕ)) (old new : S) where
  no_files_of : (w : Written) → w.files ≡ [] → IsWhole w content content' before now → SameFaults faults last old new → IsUnwritten content content' faults last old new
  no_files_of w none whole same = record { files = whole.files ∙ ap (λ files. option_map (with_files files) content) none ∙ option_map-with_none content; shelf = same }

  no_files_at : (w : Written) → w.files ≡ [] → Stops w content content' before now sink sink' faults last old new → IsUnwritten content content' faults last old new
  no_files_at w none (inl s) = let within = s.file.within in let long : length w.files ≡ 0 = ap length none in absurd (omega arith)
  no_files_at w none (inr s) = record { files = s.files ∙ ap (λ files. option_map (with_files files) content) none ∙ option_map-with_none content; shelf = s.shelf }

  pub no_files : {E : Type 0} (made : Result Written E) (o : Outcome) → IfOk made (λ w. w.files ≡ []) → Runs (OnMade made) o content content' before now sink sink' faults last old new → IsUnwritten content content' faults last old new
  no_files (Ok w) Done none r = no_files_of r.0.1.0 (ap (λ (x : Written). x.files) r.0.1.1 ∙ none) r.0.1.2 r.2
  no_files (Err e) Done none r = absurd r.0
  no_files made Usage none r = absurd r
  no_files made (Refused file rec why) none r = r.2
  no_files made (ReadFault file) none r = r.1
  no_files (Ok w) WriteFault none r = no_files_at r.0.1.0 (ap (λ (x : Written). x.files) r.0.1.1 ∙ none) r.0.1.2
  no_files (Err e) WriteFault none r = absurd r.0
  no_files made NoMemory none r = r.2

-- ---- the output of a run
output_of : (words : List Text) (request : Request) (limits : Limits) (held : Files) (input : List ℕ) (o : Output) → command words ≡ Some request
    → output words limits held input o ≡ judged (refusal (task_of request) limits held input) (written (task_of request) limits held input) o
unfolding output
output_of words request limits held input o e = ap (λ c. asked c limits held input o) e

accepted : (words : List Text) (request : Request) (limits : Limits) (held : Files) (input : List ℕ) (o : Output) → command words ≡ Some request → refusal (task_of request) limits held input ≡ None
    → output words limits held input o ≡ ((o.status ≡ 0) × written (task_of request) limits held input o.written)
accepted words request limits held input o e none = output_of words request limits held input o e ∙ ap (λ r. judged r (written (task_of request) limits held input) o) none

-- where nothing is refused, an output is what may be written
pub accepted_output : (words : List Text) (request : Request) (limits : Limits) (held : Files) (input : List ℕ) (o : Output) → command words ≡ Some request → refusal (task_of request) limits held input ≡ None
    → output words limits held input o → (o.status ≡ 0) × written (task_of request) limits held input o.written
accepted_output words request limits held input o e none is = subst (λ (X : Type 0). X) (accepted words request limits held input o e none) is

pub output_accepted : (words : List Text) (request : Request) (limits : Limits) (held : Files) (input : List ℕ) (w : Written) → command words ≡ Some request → refusal (task_of request) limits held input ≡ None
    → written (task_of request) limits held input w → output words limits held input (record { status = 0; written = w })
output_accepted words request limits held input w e none may = subst (λ (X : Type 0). X) (sym (accepted words request limits held input (record { status = 0; written = w }) e none)) (refl, may)

module _ (words : List Text) (request : Request) (limits : Limits) (content : Option Files) (input : Option (List ℕ)) (is : command words ≡ Some request) where
  abbrev task : Task
  task = task_of request

  OnTold-map : (P : Written → Type 0) → OnTold task limits content input (λ r may. (r ≡ None) × SomeWritten may P)
      → OnSources task content input (λ files bytes. SomeOutput words limits files bytes (λ o. (o.status ≡ 0) × P o.written))
  OnTold-map P k = at content k
    where
      at : (c : Option Files) → IfSome c (λ held. OnInput task.reads_input input (λ bytes. (refusal task limits held bytes ≡ None) × SomeWritten (written task limits held bytes) P))
          → IfSome c (λ held. OnInput task.reads_input input (λ bytes. SomeOutput words limits held bytes (λ o. (o.status ≡ 0) × P o.written)))
      at None k = tt
      at (Some held) k =
          OnInput-map task.reads_input input (λ bytes. (refusal task limits held bytes ≡ None) × SomeWritten (written task limits held bytes) P)
          (λ bytes. SomeOutput words limits held bytes (λ o. (o.status ≡ 0) × P o.written))
          (λ bytes p. (record { status = 0; written = p.1.0 }, output_accepted words request limits held bytes p.1.0 is p.0 p.1.1, (refl, p.1.2))) k

  module _ {S : Type 0} (content' : Option Files) (before now : Option (List ℕ)) (sink sink' : ℕ) (faults : S → ℕ) (last : S → Option (List ℕ)) (old new : S) where
    abbrev Ran : Outcome → Type 0
    Ran o = Runs (OnTold task limits content input) o content content' before now sink sink' faults last old new

    pub done : (o : Outcome) → Ran o → OnDone o (OnSources task content input (λ files bytes. SomeOutput words limits files bytes (λ o. (o.status ≡ 0) × IsWhole o.written content content' before now)))
    done Done r = OnTold-map (λ w. IsWhole w content content' before now) r.0
    done Usage r = tt
    done (Refused file rec why) r = tt
    done (ReadFault file) r = tt
    done WriteFault r = tt
    done NoMemory r = tt

    pub write_fault : (o : Outcome) → Ran o → OnWriteFault o (OnSources task content input (λ files bytes. SomeOutput words limits files bytes (λ o. (o.status ≡ 0)
        × (StopsAtFile o.written content content' before now sink sink' faults last old new ⊎ StopsAtSink o.written content content' before now sink sink' faults last old new))))
    write_fault Done r = tt
    write_fault Usage r = tt
    write_fault (Refused file rec why) r = tt
    write_fault (ReadFault file) r = tt
    write_fault WriteFault r =
        OnTold-map (λ w. StopsAtFile w content content' before now sink sink' faults last old new ⊎ StopsAtSink w content content' before now sink sink' faults last old new) r.0
    write_fault NoMemory r = tt

    pub sinks : (o : Outcome) → Ran o → OnDone o (sink' ≡ sink) × OnDone o (SameFaults faults last old new) × OnNoMemory o (now ≡ before) × OnNoMemory o (sink' ≡ sink)
        × OnWriteFault o (Rose sink sink' ⊎ Rose (faults old) (faults new)) × UnlessWritten o (IsUnwritten content content' faults last old new)
    sinks Done r = (r.1, r.2, tt, tt, tt, tt)
    sinks Usage r = absurd r
    sinks (Refused file rec why) r = (tt, tt, tt, tt, tt, r.2)
    sinks (ReadFault file) r = (tt, tt, tt, tt, tt, r.1)
    sinks WriteFault r = (tt, tt, tt, tt, r.1, tt)
    sinks NoMemory r = (tt, tt, r.0, r.1, tt, r.2)

    pub lines : (o : Outcome) → Ran o → IfRefused o (λ file rec why. OnTold task limits content input (λ r w. r ≡ Some (file, rec, why))) × IfRefused o (λ file rec why. IsPut (file_line file rec why) before now sink sink')
        × IfReadFault o (λ file. IsPut (fault_line file) before now sink sink')
    lines Done r = (tt, tt, tt)
    lines Usage r = absurd r
    lines (Refused file rec why) r = (r.0, r.1, tt)
    lines (ReadFault file) r = (tt, tt, r.0)
    lines WriteFault r = (tt, tt, tt)
    lines NoMemory r = (tt, tt, tt)

    pub no_usage : (o : Outcome) (P : Type 0) → Ran o → OnUsage o P
    no_usage Done P r = tt
    no_usage Usage P r = absurd r
    no_usage (Refused file rec why) P r = tt
    no_usage (ReadFault file) P r = tt
    no_usage WriteFault P r = tt
    no_usage NoMemory P r = tt

    -- ---- nothing failed
    module _ {I : Type 0} (files : Files) (bytes : List ℕ) (told : content ≡ Some files) (given : IsInput task.reads_input input bytes) (read_faults : S → ℕ) (read_last : S → Option (List ℕ))
        (from from' : I) (left left' : Option (List ℕ)) (count count' opens opens' : ℕ) where
      abbrev Faulted : Outcome → Type 0
      Faulted o = IfReadFault o (λ file. IsFileFault limits content task file read_faults read_last old new from from' opens opens'
          ⊎ (AreAccepted limits content task.reads read_faults read_last old new × IsInputFault limits task.reads_input file left left' count count'))

      abbrev NoFileFault : Type 0
      NoFileFault = (place : ℕ) → place < length task.reads → RoseAt (get_or task.reads place no_reading).0 read_faults read_last old new → ⊥

      at_told : (P : Files → List ℕ → Type 0) → OnSources task content input P → P files bytes
      at_told P k = at task.reads_input given (subst (λ c. IfSome c (λ held. OnInput task.reads_input input (P held))) told k)
        where
          at : (reads : Bool) → IsInput reads input bytes → OnInput reads input (P files) → P files bytes
          at true g k = subst (λ i. IfSome i (P files)) g k
          at false g k = subst (P files) (sym g) k

      no_file : (file : List ℕ) → NoFileFault → IsFileFault limits content task file read_faults read_last old new from from' opens opens' → ⊥
      no_file file shelf x = shelf x.reached.place x.reached.within (record { count = x.shelf.count; name_is = x.shelf.name_is ∙ ap (λ (name : List ℕ). Some name) (sym x.reached.name) })

      abbrev Stopped : Files → List ℕ → Type 0
      Stopped held all = (refusal task limits held all ≡ None) × SomeWritten (written task limits held all) (λ w. Stops w content content' before now sink sink' faults last old new)

      pub complete : (o : Outcome) → Ran o → Faulted o → refusal task limits files bytes ≡ None → NoFileFault → (task.reads_input ≡ true → Rose count count' → ⊥)
          → ((out : Output) (place : ℕ) → output words limits files bytes out → place < length out.written.files → RoseAt (file_at out.written.files place).0 faults last old new → ⊥)
          → (Rose sink sink' → ⊥) → IsDoneOrNoMemory o
      complete Done r f none shelf input_fault writes sink_fault = tt
      complete Usage r f none shelf input_fault writes sink_fault = absurd r
      complete (Refused file rec why) r f none shelf input_fault writes sink_fault = absurd (none_is_some (file, rec, why) (sym none ∙ at_told (λ held all. refusal task limits held all ≡ Some (file, rec, why)) r.0))
      complete (ReadFault file) r (inl x) none shelf input_fault writes sink_fault = absurd (no_file file shelf x)
      complete (ReadFault file) r (inr x) none shelf input_fault writes sink_fault = absurd (input_fault x.1.reads_input x.1.rose)
      complete WriteFault r f none shelf input_fault writes sink_fault =
          let told = at_told Stopped r.0 in
          absurd (at told.1.0 told.1.1 told.1.2)
        where
          at : (w : Written) → written task limits files bytes w → Stops w content content' before now sink sink' faults last old new → ⊥
          at w may (inl s) = writes (record { status = 0; written = w }) s.file.place (output_accepted words request limits files bytes w is none may) s.file.within s.file.shelf
          at w may (inr s) = sink_fault s.sink_count
      complete NoMemory r f none shelf input_fault writes sink_fault = tt

      pub not_accepted : (o : Outcome) (file : List ℕ) (rec : ℕ) (why : Why) → Ran o → Faulted o → refusal task limits files bytes ≡ Some (file, rec, why) → NoFileFault
          → (first_refusal limits files task.reads ≡ None → Rose count count' → ⊥) → IsRefusedOrNoMemory o
      not_accepted Done file rec why r f some shelf input_fault =
          absurd (none_is_some (file, rec, why) (sym (at_told (λ held all. (refusal task limits held all ≡ None) × SomeWritten (written task limits held all) (λ w. IsWhole w content content' before now)) r.0).0 ∙ some))
      not_accepted Usage file rec why r f some shelf input_fault = absurd r
      not_accepted (Refused name n y) file rec why r f some shelf input_fault = tt
      not_accepted (ReadFault name) file rec why r (inl x) some shelf input_fault = absurd (no_file name shelf x)
      not_accepted (ReadFault name) file rec why r (inr x) some shelf input_fault =
          absurd (input_fault (subst (λ c. IfSome c (λ held. first_refusal limits held task.reads ≡ None)) told x.0.accepted) x.1.rose)
      not_accepted WriteFault file rec why r f some shelf input_fault = absurd (none_is_some (file, rec, why) (sym (at_told Stopped r.0).0 ∙ some))
      not_accepted NoMemory file rec why r f some shelf input_fault = tt
