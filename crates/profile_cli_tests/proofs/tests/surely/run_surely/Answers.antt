use Rattle.std.proofs.Common.{◌≡◌, ◌∙◌, ◌⊎◌, inl, inr, ◌++◌, ◌<◌, ℕ, zero, suc, Bool, true, false, List, [], length, take, Some, None, Option, sym, ap, subst, refl, arith}
use Rattle.std.specs.Prelude.{IfSome, IsSomeAnd}
use Rattle.std.proofs.lemmas.List.{length-take}
use Rattle.rel_base.specs.declared.limits.Limits.{Limits}
use Rattle.clap.specs.Walk.{Text}
use Rattle.ports.specs.Files.{Files}
use Rattle.ports.specs.Lists.{look_up}
use Rattle.ports.specs.Memory.{SureHeld}
use Rattle.ports.specs.Shelves.{SureFiles, sure_content}
use Rattle.cli_words.specs.Command.{command}
use Rattle.profile_cli.specs.Ends.{AreAccepted, IsFileFault, IsInput, IsInputFault, OnInput, OnSources, StopsAtFile, StopsAtSink}
use Rattle.profile_cli.specs.Outcomes.{IfReadFault, IfRefused, IsDoneOrNoMemory, OnUsage, OnWriteFault}
use Rattle.profile_cli.specs.Output.{Output, SomeOutput, output, refusal}
use Rattle.profile_cli.specs.Task.{task_of}
use Rattle.profile_cli.specs.declared.outcome.Outcome.{Outcome}
use Rattle.profile_cli.specs.declared.outcome.Outcome.TheVariants.{Done, Usage, Refused, ReadFault, WriteFault, NoMemory}
use Rattle.cli_words.specs.declared.request.Request.{Request}
use Rattle.profile_cli.proofs.Ends.{accepted_output, none_is_some, some_same}
use Rattle.profile_cli.proofs.Commands.{writes_none}
use Rattle.profile_cli_tests.proofs.tests.surely.run_surely.Goals as goal

at : (reads : Bool) (input : Option (List ℕ)) (bytes : List ℕ) (Q : List ℕ → Type 0) → IsInput reads input bytes → OnInput reads input Q → Q bytes
at true input bytes Q g k = subst (λ i. IfSome i Q) g k
at false input bytes Q g k = subst Q (sym g) k

-- a count that rose from 0
positive : (a b : ℕ) → a ≡ 0 → (b ≡ a → b ≡ 18446744073709551615) → 0 < b
positive a zero e f = let g : 0 ≡ 18446744073709551615 = f (sym e) in absurd (omega arith)
positive a (suc b) e f = omega arith

module _ (words : List Text) (request : Request) (limits : Limits) (old new : SureFiles) (input input' bytes : List ℕ) (sink sink' : SureHeld)
    (is : command words ≡ Some request) (given : IsInput (task_of request).reads_input (Some input) bytes) (none : refusal (task_of request) limits (look_up old.files) bytes ≡ None)
    (no_files : (task_of request).writes_files ≡ false) (empty : sink.store.held ≡ []) (unfailed : sink.faults ≡ 0) (same : sink'.store.room ≡ sink.store.room)
    (full : 0 < sink'.faults → length sink'.store.held ≡ sink'.store.room) (room : (o : Output) → output words limits (look_up old.files) bytes o → length o.written.text < sink.store.room) where
  abbrev Stops : Files → List ℕ → Type 0
  Stops files all = SomeOutput words limits files all (λ o. (o.status ≡ 0)
      × (StopsAtFile o.written (sure_content old) (sure_content new) (Some sink.store.held) (Some sink'.store.held) sink.faults sink'.faults (λ (s : SureFiles). s.write_faults) (λ (s : SureFiles). s.write_last) old new
      ⊎ StopsAtSink o.written (sure_content old) (sure_content new) (Some sink.store.held) (Some sink'.store.held) sink.faults sink'.faults (λ (s : SureFiles). s.write_faults) (λ (s : SureFiles). s.write_last) old new))

  never : Stops (look_up old.files) bytes → ⊥
  never (o, is_one, (zero_status, inl s)) =
      let files : o.written.files ≡ [] = writes_none request limits _ o.written no_files (accepted_output words request limits (look_up old.files) bytes o is none is_one).1 in
      let count : length o.written.files ≡ 0 = ap length files in
      let within = s.file.within in
      omega arith
  never (o, is_one, (zero_status, inr s)) =
      let text : List ℕ = o.written.text in
      let less : length text < sink.store.room = room o is_one in
      let held : sink'.store.held ≡ take s.count text = some_same sink'.store.held (take s.count text) (s.text ∙ ap (λ (h : List ℕ). Some (h ++ take s.count text)) empty) in
      let long : length sink'.store.held ≡ length (take s.count text) = ap length held in
      let short = length-take s.count text in
      let rose = s.sink_count in
      let up : 0 < sink'.faults = positive sink.faults sink'.faults unfailed rose.risen in
      let whole : length sink'.store.held ≡ sink'.store.room = full up in
      omega arith

  surely : (o : Outcome) → OnUsage o (command words ≡ None)
      → IfRefused o (λ file rec why. IsSomeAnd (command words) (λ r. OnSources (task_of r) (sure_content old) (Some input) (λ files all. refusal (task_of r) limits files all ≡ Some (file, rec, why))))
      → IfReadFault o (λ file. IsSomeAnd (command words) (λ r. IsFileFault limits (sure_content old) (task_of r) file (λ (s : SureFiles). 0) (λ (s : SureFiles). None) old new input input' old.opens new.opens
      ⊎ (AreAccepted limits (sure_content old) (task_of r).reads (λ (s : SureFiles). 0) (λ (s : SureFiles). None) old new × IsInputFault limits (task_of r).reads_input file (Some input) (Some input') 0 0)))
      → OnWriteFault o (IsSomeAnd (command words) (λ r. OnSources (task_of r) (sure_content old) (Some input) Stops)) → IsDoneOrNoMemory o
  surely Done usage refused read_fault write_fault = tt
  surely Usage usage refused read_fault write_fault = none_is_some request (sym usage ∙ is)
  surely (Refused file rec why) usage refused read_fault write_fault =
      let known = subst (λ c. IsSomeAnd c (λ r. OnSources (task_of r) (sure_content old) (Some input) (λ files all. refusal (task_of r) limits files all ≡ Some (file, rec, why)))) is refused in
      none_is_some (file, rec, why) (sym none ∙ at (task_of request).reads_input (Some input) bytes (λ all. refusal (task_of request) limits (look_up old.files) all ≡ Some (file, rec, why)) given known)
  surely (ReadFault file) usage refused read_fault write_fault = failed (subst (λ c. IsSomeAnd c (λ r. IsFileFault limits (sure_content old) (task_of r) file (λ (s : SureFiles). 0) (λ (s : SureFiles). None) old new input input' old.opens new.opens
      ⊎ (AreAccepted limits (sure_content old) (task_of r).reads (λ (s : SureFiles). 0) (λ (s : SureFiles). None) old new × IsInputFault limits (task_of r).reads_input file (Some input) (Some input') 0 0))) is read_fault)
    where
      failed : IsFileFault limits (sure_content old) (task_of request) file (λ (s : SureFiles). 0) (λ (s : SureFiles). None) old new input input' old.opens new.opens
          ⊎ (AreAccepted limits (sure_content old) (task_of request).reads (λ (s : SureFiles). 0) (λ (s : SureFiles). None) old new × IsInputFault limits (task_of request).reads_input file (Some input) (Some input') 0 0) → ⊥
      failed (inl x) = none_is_some file x.shelf.name_is
      failed (inr x) = let risen : 0 ≡ 18446744073709551615 = x.1.rose.risen refl in omega arith
  surely WriteFault usage refused read_fault write_fault =
      never (at (task_of request).reads_input (Some input) bytes (Stops (look_up old.files)) given (subst (λ c. IsSomeAnd c (λ r. OnSources (task_of r) (sure_content old) (Some input) Stops)) is write_fault))
  surely NoMemory usage refused read_fault write_fault = tt

pub returns-clause-complete : goal.returns-clause-complete
returns-clause-complete g c request bytes is no_files given none room =
    let e = c.run-outcome.ensures in
    surely _ request c.args.limits c.args.shelf.now c.run-outcome.new.shelf c.args.input.now c.run-outcome.new.input bytes c.args.out.now c.run-outcome.new.out is given none no_files c.requires.empty c.requires.no_fault
    (some_same _ _ e.room) c.bytes-held.ensures.full room c.run-outcome.result e.usage e.refused e.read_fault e.write_fault
