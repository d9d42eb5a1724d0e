use Rattle.std.proofs.Common.{◌≡◌, ◌∙◌, ◌+◌, ◌≤◌, ◌⊎◌, List, String, Some, sym, ap, subst, false, arith}
use Rattle.std.specs.Prelude.{IfSome, IsSomeAnd}
use Rattle.std.specs.declared.alloc.Global.{Global}
use Rattle.cli_words.specs.Command.{command, texts, workers_asked}
use Rattle.task_base.specs.Task.{AreWorkers}
use Rattle.profile_cli.specs.Ends.{AreAccepted, IsFileFault, IsFileRefusal, IsInputFault, IsInputRefusal, IsReadThrough, IsUnwritten, IsWhole, OnSources, OnTold, Runs, StopsAtFile, StopsAtSink}
use Rattle.profile_cli.specs.Outcomes.{IfReadFault}
use Rattle.profile_cli.specs.Output.{SomeOutput, refusal}
use Rattle.profile_cli.specs.Task.{files_read, task_of}
use Rattle.cli_words.specs.declared.request.Request.{Request}
use Rattle.profile_cli.proofs.Ends.{IfReadFault-map, IfRefused-map, OnDone-map, OnWriteFault-map, complete, done, lines, no_usage, none_is_some, not_accepted, sinks, some_same, write_fault}
use Rattle.profile_cli.proofs.Lossless.{written_tables}
use Rattle.profile_cli.proofs.top_call.run.Goals as goal

pub returns-in-Ok-Some-clause-done : goal.returns-in-Ok-Some-clause-done
returns-in-Ok-Some-clause-done g c =
    let H = g.H.Shelf in
    let I = g.I.Source in
    let O = g.O.Sink in
    let request = c.in-Ok-Some.request in
    let are : Some request ≡ command (texts c.args.words.items) = sym c.in-Ok-Some.field-0-is ∙ c.in-Ok-Some.ensures.command ∙ ap (λ (ws : List (String Global)). command (texts ws)) c.as_slice.ensures.value in
    OnDone-map c.perform.result (OnSources (task_of request) (H.content c.args.shelf.now) (I.left c.args.input.now) (λ files bytes. SomeOutput (texts c.args.words.items) c.args.limits files bytes (λ o. (o.status ≡ 0) × IsWhole o.written (H.content c.args.shelf.now) (H.content c.perform.new.shelf) (O.held c.args.out.now) (O.held c.perform.new.out))))
    (IsSomeAnd (command (texts c.args.words.items)) (λ (r : Request). OnSources (task_of r) (H.content c.args.shelf.now) (I.left c.args.input.now) (λ files bytes. SomeOutput (texts c.args.words.items) c.args.limits files bytes (λ o. (o.status ≡ 0) × IsWhole o.written (H.content c.args.shelf.now) (H.content c.perform.new.shelf) (O.held c.args.out.now) (O.held c.perform.new.out)))))
    (subst (λ o. IsSomeAnd o (λ (r : Request). OnSources (task_of r) (H.content c.args.shelf.now) (I.left c.args.input.now) (λ files bytes. SomeOutput (texts c.args.words.items) c.args.limits files bytes (λ o. (o.status ≡ 0) × IsWhole o.written (H.content c.args.shelf.now) (H.content c.perform.new.shelf) (O.held c.args.out.now) (O.held c.perform.new.out))))) are)
    (done (texts c.args.words.items) request c.args.limits (H.content c.args.shelf.now) (I.left c.args.input.now) (sym are) (H.content c.perform.new.shelf) (O.held c.args.out.now) (O.held c.perform.new.out) (O.faults c.args.out.now) (O.faults c.perform.new.out) H.write_faults H.write_last c.args.shelf.now c.perform.new.shelf c.perform.result c.perform.ensures.runs)

pub returns-in-Ok-Some-clause-done_input : goal.returns-in-Ok-Some-clause-done_input
returns-in-Ok-Some-clause-done_input g c =
    let H = g.H.Shelf in
    let I = g.I.Source in
    let O = g.O.Sink in
    let request = c.in-Ok-Some.request in
    let are : Some request ≡ command (texts c.args.words.items) = sym c.in-Ok-Some.field-0-is ∙ c.in-Ok-Some.ensures.command ∙ ap (λ (ws : List (String Global)). command (texts ws)) c.as_slice.ensures.value in
    OnDone-map c.perform.result (IsReadThrough (task_of request).reads_input (I.left c.perform.new.input)) (IsSomeAnd (command (texts c.args.words.items)) (λ (r : Request). IsReadThrough (task_of r).reads_input (I.left c.perform.new.input)))
    (subst (λ o. IsSomeAnd o (λ (r : Request). IsReadThrough (task_of r).reads_input (I.left c.perform.new.input))) are) c.perform.ensures.through

pub returns-in-Ok-Some-clause-done_faults : goal.returns-in-Ok-Some-clause-done_faults
returns-in-Ok-Some-clause-done_faults g c =
    let H = g.H.Shelf in
    let I = g.I.Source in
    let O = g.O.Sink in
    let request = c.in-Ok-Some.request in
    let are : Some request ≡ command (texts c.args.words.items) = sym c.in-Ok-Some.field-0-is ∙ c.in-Ok-Some.ensures.command ∙ ap (λ (ws : List (String Global)). command (texts ws)) c.as_slice.ensures.value in
    (sinks (texts c.args.words.items) request c.args.limits (H.content c.args.shelf.now) (I.left c.args.input.now) (sym are) (H.content c.perform.new.shelf) (O.held c.args.out.now) (O.held c.perform.new.out) (O.faults c.args.out.now) (O.faults c.perform.new.out) H.write_faults H.write_last c.args.shelf.now c.perform.new.shelf c.perform.result c.perform.ensures.runs).0

pub returns-in-Ok-Some-clause-done_writes : goal.returns-in-Ok-Some-clause-done_writes
returns-in-Ok-Some-clause-done_writes g c =
    let H = g.H.Shelf in
    let I = g.I.Source in
    let O = g.O.Sink in
    let request = c.in-Ok-Some.request in
    let are : Some request ≡ command (texts c.args.words.items) = sym c.in-Ok-Some.field-0-is ∙ c.in-Ok-Some.ensures.command ∙ ap (λ (ws : List (String Global)). command (texts ws)) c.as_slice.ensures.value in
    (sinks (texts c.args.words.items) request c.args.limits (H.content c.args.shelf.now) (I.left c.args.input.now) (sym are) (H.content c.perform.new.shelf) (O.held c.args.out.now) (O.held c.perform.new.out) (O.faults c.args.out.now) (O.faults c.perform.new.out) H.write_faults H.write_last c.args.shelf.now c.perform.new.shelf c.perform.result c.perform.ensures.runs).1

pub returns-in-Ok-Some-clause-no_memory : goal.returns-in-Ok-Some-clause-no_memory
returns-in-Ok-Some-clause-no_memory g c =
    let H = g.H.Shelf in
    let I = g.I.Source in
    let O = g.O.Sink in
    let request = c.in-Ok-Some.request in
    let are : Some request ≡ command (texts c.args.words.items) = sym c.in-Ok-Some.field-0-is ∙ c.in-Ok-Some.ensures.command ∙ ap (λ (ws : List (String Global)). command (texts ws)) c.as_slice.ensures.value in
    (sinks (texts c.args.words.items) request c.args.limits (H.content c.args.shelf.now) (I.left c.args.input.now) (sym are) (H.content c.perform.new.shelf) (O.held c.args.out.now) (O.held c.perform.new.out) (O.faults c.args.out.now) (O.faults c.perform.new.out) H.write_faults H.write_last c.args.shelf.now c.perform.new.shelf c.perform.result c.perform.ensures.runs).2

pub returns-in-Ok-Some-clause-no_memory_faults : goal.returns-in-Ok-Some-clause-no_memory_faults
returns-in-Ok-Some-clause-no_memory_faults g c =
    let H = g.H.Shelf in
    let I = g.I.Source in
    let O = g.O.Sink in
    let request = c.in-Ok-Some.request in
    let are : Some request ≡ command (texts c.args.words.items) = sym c.in-Ok-Some.field-0-is ∙ c.in-Ok-Some.ensures.command ∙ ap (λ (ws : List (String Global)). command (texts ws)) c.as_slice.ensures.value in
    (sinks (texts c.args.words.items) request c.args.limits (H.content c.args.shelf.now) (I.left c.args.input.now) (sym are) (H.content c.perform.new.shelf) (O.held c.args.out.now) (O.held c.perform.new.out) (O.faults c.args.out.now) (O.faults c.perform.new.out) H.write_faults H.write_last c.args.shelf.now c.perform.new.shelf c.perform.result c.perform.ensures.runs).3

pub returns-in-Ok-Some-clause-write_count : goal.returns-in-Ok-Some-clause-write_count
returns-in-Ok-Some-clause-write_count g c =
    let H = g.H.Shelf in
    let I = g.I.Source in
    let O = g.O.Sink in
    let request = c.in-Ok-Some.request in
    let are : Some request ≡ command (texts c.args.words.items) = sym c.in-Ok-Some.field-0-is ∙ c.in-Ok-Some.ensures.command ∙ ap (λ (ws : List (String Global)). command (texts ws)) c.as_slice.ensures.value in
    (sinks (texts c.args.words.items) request c.args.limits (H.content c.args.shelf.now) (I.left c.args.input.now) (sym are) (H.content c.perform.new.shelf) (O.held c.args.out.now) (O.held c.perform.new.out) (O.faults c.args.out.now) (O.faults c.perform.new.out) H.write_faults H.write_last c.args.shelf.now c.perform.new.shelf c.perform.result c.perform.ensures.runs).4

pub returns-in-Ok-Some-clause-unwritten : goal.returns-in-Ok-Some-clause-unwritten
returns-in-Ok-Some-clause-unwritten g c =
    let H = g.H.Shelf in
    let I = g.I.Source in
    let O = g.O.Sink in
    let request = c.in-Ok-Some.request in
    let are : Some request ≡ command (texts c.args.words.items) = sym c.in-Ok-Some.field-0-is ∙ c.in-Ok-Some.ensures.command ∙ ap (λ (ws : List (String Global)). command (texts ws)) c.as_slice.ensures.value in
    (sinks (texts c.args.words.items) request c.args.limits (H.content c.args.shelf.now) (I.left c.args.input.now) (sym are) (H.content c.perform.new.shelf) (O.held c.args.out.now) (O.held c.perform.new.out) (O.faults c.args.out.now) (O.faults c.perform.new.out) H.write_faults H.write_last c.args.shelf.now c.perform.new.shelf c.perform.result c.perform.ensures.runs).5

pub returns-in-Ok-Some-clause-usage : goal.returns-in-Ok-Some-clause-usage
returns-in-Ok-Some-clause-usage g c =
    let H = g.H.Shelf in
    let I = g.I.Source in
    let O = g.O.Sink in
    let request = c.in-Ok-Some.request in
    let are : Some request ≡ command (texts c.args.words.items) = sym c.in-Ok-Some.field-0-is ∙ c.in-Ok-Some.ensures.command ∙ ap (λ (ws : List (String Global)). command (texts ws)) c.as_slice.ensures.value in
    no_usage (texts c.args.words.items) request c.args.limits (H.content c.args.shelf.now) (I.left c.args.input.now) (sym are) (H.content c.perform.new.shelf) (O.held c.args.out.now) (O.held c.perform.new.out) (O.faults c.args.out.now) (O.faults c.perform.new.out) H.write_faults H.write_last c.args.shelf.now c.perform.new.shelf c.perform.result _ c.perform.ensures.runs

pub returns-in-Ok-Some-clause-usage_line : goal.returns-in-Ok-Some-clause-usage_line
returns-in-Ok-Some-clause-usage_line g c =
    let H = g.H.Shelf in
    let I = g.I.Source in
    let O = g.O.Sink in
    let request = c.in-Ok-Some.request in
    let are : Some request ≡ command (texts c.args.words.items) = sym c.in-Ok-Some.field-0-is ∙ c.in-Ok-Some.ensures.command ∙ ap (λ (ws : List (String Global)). command (texts ws)) c.as_slice.ensures.value in
    no_usage (texts c.args.words.items) request c.args.limits (H.content c.args.shelf.now) (I.left c.args.input.now) (sym are) (H.content c.perform.new.shelf) (O.held c.args.out.now) (O.held c.perform.new.out) (O.faults c.args.out.now) (O.faults c.perform.new.out) H.write_faults H.write_last c.args.shelf.now c.perform.new.shelf c.perform.result _ c.perform.ensures.runs

pub returns-in-Ok-Some-clause-no_command : goal.returns-in-Ok-Some-clause-no_command
returns-in-Ok-Some-clause-no_command g c none =
    let H = g.H.Shelf in
    let I = g.I.Source in
    let O = g.O.Sink in
    let request = c.in-Ok-Some.request in
    let are : Some request ≡ command (texts c.args.words.items) = sym c.in-Ok-Some.field-0-is ∙ c.in-Ok-Some.ensures.command ∙ ap (λ (ws : List (String Global)). command (texts ws)) c.as_slice.ensures.value in
    absurd (none_is_some request (sym (are ∙ none)))

pub returns-in-Ok-Some-clause-no_input : goal.returns-in-Ok-Some-clause-no_input
returns-in-Ok-Some-clause-no_input g c none =
    let H = g.H.Shelf in
    let I = g.I.Source in
    let O = g.O.Sink in
    let request = c.in-Ok-Some.request in
    let are : Some request ≡ command (texts c.args.words.items) = sym c.in-Ok-Some.field-0-is ∙ c.in-Ok-Some.ensures.command ∙ ap (λ (ws : List (String Global)). command (texts ws)) c.as_slice.ensures.value in
    absurd (none_is_some request (sym (are ∙ none)))

pub returns-in-Ok-Some-clause-refused : goal.returns-in-Ok-Some-clause-refused
returns-in-Ok-Some-clause-refused g c =
    let H = g.H.Shelf in
    let I = g.I.Source in
    let O = g.O.Sink in
    let request = c.in-Ok-Some.request in
    let are : Some request ≡ command (texts c.args.words.items) = sym c.in-Ok-Some.field-0-is ∙ c.in-Ok-Some.ensures.command ∙ ap (λ (ws : List (String Global)). command (texts ws)) c.as_slice.ensures.value in
    IfRefused-map c.perform.result (λ file rec why. OnSources (task_of request) (H.content c.args.shelf.now) (I.left c.args.input.now) (λ files bytes. refusal (task_of request) c.args.limits files bytes ≡ Some (file, rec, why))) (λ file rec why. IsSomeAnd (command (texts c.args.words.items)) (λ (r : Request). OnSources (task_of r) (H.content c.args.shelf.now) (I.left c.args.input.now) (λ files bytes. refusal (task_of r) c.args.limits files bytes ≡ Some (file, rec, why))))
    (λ file rec why. subst (λ o. IsSomeAnd o (λ (r : Request). OnSources (task_of r) (H.content c.args.shelf.now) (I.left c.args.input.now) (λ files bytes. refusal (task_of r) c.args.limits files bytes ≡ Some (file, rec, why)))) are)
    (lines (texts c.args.words.items) request c.args.limits (H.content c.args.shelf.now) (I.left c.args.input.now) (sym are) (H.content c.perform.new.shelf) (O.held c.args.out.now) (O.held c.perform.new.out) (O.faults c.args.out.now) (O.faults c.perform.new.out) H.write_faults H.write_last c.args.shelf.now c.perform.new.shelf c.perform.result c.perform.ensures.runs).0

pub returns-in-Ok-Some-clause-refused_line : goal.returns-in-Ok-Some-clause-refused_line
returns-in-Ok-Some-clause-refused_line g c =
    let H = g.H.Shelf in
    let I = g.I.Source in
    let O = g.O.Sink in
    let request = c.in-Ok-Some.request in
    let are : Some request ≡ command (texts c.args.words.items) = sym c.in-Ok-Some.field-0-is ∙ c.in-Ok-Some.ensures.command ∙ ap (λ (ws : List (String Global)). command (texts ws)) c.as_slice.ensures.value in
    (lines (texts c.args.words.items) request c.args.limits (H.content c.args.shelf.now) (I.left c.args.input.now) (sym are) (H.content c.perform.new.shelf) (O.held c.args.out.now) (O.held c.perform.new.out) (O.faults c.args.out.now) (O.faults c.perform.new.out) H.write_faults H.write_last c.args.shelf.now c.perform.new.shelf c.perform.result c.perform.ensures.runs).1

pub returns-in-Ok-Some-clause-fault_line : goal.returns-in-Ok-Some-clause-fault_line
returns-in-Ok-Some-clause-fault_line g c =
    let H = g.H.Shelf in
    let I = g.I.Source in
    let O = g.O.Sink in
    let request = c.in-Ok-Some.request in
    let are : Some request ≡ command (texts c.args.words.items) = sym c.in-Ok-Some.field-0-is ∙ c.in-Ok-Some.ensures.command ∙ ap (λ (ws : List (String Global)). command (texts ws)) c.as_slice.ensures.value in
    (lines (texts c.args.words.items) request c.args.limits (H.content c.args.shelf.now) (I.left c.args.input.now) (sym are) (H.content c.perform.new.shelf) (O.held c.args.out.now) (O.held c.perform.new.out) (O.faults c.args.out.now) (O.faults c.perform.new.out) H.write_faults H.write_last c.args.shelf.now c.perform.new.shelf c.perform.result c.perform.ensures.runs).2

pub returns-in-Ok-Some-clause-refused_at : goal.returns-in-Ok-Some-clause-refused_at
returns-in-Ok-Some-clause-refused_at g c =
    let H = g.H.Shelf in
    let I = g.I.Source in
    let O = g.O.Sink in
    let request = c.in-Ok-Some.request in
    let are : Some request ≡ command (texts c.args.words.items) = sym c.in-Ok-Some.field-0-is ∙ c.in-Ok-Some.ensures.command ∙ ap (λ (ws : List (String Global)). command (texts ws)) c.as_slice.ensures.value in
    IfRefused-map c.perform.result (λ file rec why. IsFileRefusal c.args.limits (H.content c.args.shelf.now) (task_of request) file rec why c.args.input.now c.perform.new.input (H.opens c.args.shelf.now) (H.opens c.perform.new.shelf)
    ⊎ (AreAccepted c.args.limits (H.content c.args.shelf.now) (task_of request).reads H.read_faults H.read_last c.args.shelf.now c.perform.new.shelf × IsInputRefusal c.args.limits (task_of request).reads_input file rec why (I.left c.args.input.now) (I.left c.perform.new.input))) (λ file rec why. IsSomeAnd (command (texts c.args.words.items)) (λ (r : Request). IsFileRefusal c.args.limits (H.content c.args.shelf.now) (task_of r) file rec why c.args.input.now c.perform.new.input (H.opens c.args.shelf.now) (H.opens c.perform.new.shelf)
    ⊎ (AreAccepted c.args.limits (H.content c.args.shelf.now) (task_of r).reads H.read_faults H.read_last c.args.shelf.now c.perform.new.shelf × IsInputRefusal c.args.limits (task_of r).reads_input file rec why (I.left c.args.input.now) (I.left c.perform.new.input))))
    (λ file rec why. subst (λ o. IsSomeAnd o (λ (r : Request). IsFileRefusal c.args.limits (H.content c.args.shelf.now) (task_of r) file rec why c.args.input.now c.perform.new.input (H.opens c.args.shelf.now) (H.opens c.perform.new.shelf)
    ⊎ (AreAccepted c.args.limits (H.content c.args.shelf.now) (task_of r).reads H.read_faults H.read_last c.args.shelf.now c.perform.new.shelf × IsInputRefusal c.args.limits (task_of r).reads_input file rec why (I.left c.args.input.now) (I.left c.perform.new.input)))) are) c.perform.ensures.refused

pub returns-in-Ok-Some-clause-read_fault : goal.returns-in-Ok-Some-clause-read_fault
returns-in-Ok-Some-clause-read_fault g c =
    let H = g.H.Shelf in
    let I = g.I.Source in
    let O = g.O.Sink in
    let request = c.in-Ok-Some.request in
    let are : Some request ≡ command (texts c.args.words.items) = sym c.in-Ok-Some.field-0-is ∙ c.in-Ok-Some.ensures.command ∙ ap (λ (ws : List (String Global)). command (texts ws)) c.as_slice.ensures.value in
    IfReadFault-map c.perform.result (λ file. IsFileFault c.args.limits (H.content c.args.shelf.now) (task_of request) file H.read_faults H.read_last c.args.shelf.now c.perform.new.shelf c.args.input.now c.perform.new.input (H.opens c.args.shelf.now) (H.opens c.perform.new.shelf)
    ⊎ (AreAccepted c.args.limits (H.content c.args.shelf.now) (task_of request).reads H.read_faults H.read_last c.args.shelf.now c.perform.new.shelf × IsInputFault c.args.limits (task_of request).reads_input file (I.left c.args.input.now) (I.left c.perform.new.input) (I.faults c.args.input.now) (I.faults c.perform.new.input))) (λ file. IsSomeAnd (command (texts c.args.words.items)) (λ (r : Request). IsFileFault c.args.limits (H.content c.args.shelf.now) (task_of r) file H.read_faults H.read_last c.args.shelf.now c.perform.new.shelf c.args.input.now c.perform.new.input (H.opens c.args.shelf.now) (H.opens c.perform.new.shelf)
    ⊎ (AreAccepted c.args.limits (H.content c.args.shelf.now) (task_of r).reads H.read_faults H.read_last c.args.shelf.now c.perform.new.shelf × IsInputFault c.args.limits (task_of r).reads_input file (I.left c.args.input.now) (I.left c.perform.new.input) (I.faults c.args.input.now) (I.faults c.perform.new.input))))
    (λ file. subst (λ o. IsSomeAnd o (λ (r : Request). IsFileFault c.args.limits (H.content c.args.shelf.now) (task_of r) file H.read_faults H.read_last c.args.shelf.now c.perform.new.shelf c.args.input.now c.perform.new.input (H.opens c.args.shelf.now) (H.opens c.perform.new.shelf)
    ⊎ (AreAccepted c.args.limits (H.content c.args.shelf.now) (task_of r).reads H.read_faults H.read_last c.args.shelf.now c.perform.new.shelf × IsInputFault c.args.limits (task_of r).reads_input file (I.left c.args.input.now) (I.left c.perform.new.input) (I.faults c.args.input.now) (I.faults c.perform.new.input)))) are) c.perform.ensures.read_fault

pub returns-in-Ok-Some-clause-write_fault : goal.returns-in-Ok-Some-clause-write_fault
returns-in-Ok-Some-clause-write_fault g c =
    let H = g.H.Shelf in
    let I = g.I.Source in
    let O = g.O.Sink in
    let request = c.in-Ok-Some.request in
    let are : Some request ≡ command (texts c.args.words.items) = sym c.in-Ok-Some.field-0-is ∙ c.in-Ok-Some.ensures.command ∙ ap (λ (ws : List (String Global)). command (texts ws)) c.as_slice.ensures.value in
    OnWriteFault-map c.perform.result (OnSources (task_of request) (H.content c.args.shelf.now) (I.left c.args.input.now) (λ files bytes. SomeOutput (texts c.args.words.items) c.args.limits files bytes (λ o. (o.status ≡ 0)
    × (StopsAtFile o.written (H.content c.args.shelf.now) (H.content c.perform.new.shelf) (O.held c.args.out.now) (O.held c.perform.new.out) (O.faults c.args.out.now) (O.faults c.perform.new.out) H.write_faults H.write_last c.args.shelf.now c.perform.new.shelf ⊎ StopsAtSink o.written (H.content c.args.shelf.now) (H.content c.perform.new.shelf) (O.held c.args.out.now) (O.held c.perform.new.out) (O.faults c.args.out.now) (O.faults c.perform.new.out) H.write_faults H.write_last c.args.shelf.now c.perform.new.shelf))))
    (IsSomeAnd (command (texts c.args.words.items)) (λ (r : Request). OnSources (task_of r) (H.content c.args.shelf.now) (I.left c.args.input.now) (λ files bytes. SomeOutput (texts c.args.words.items) c.args.limits files bytes (λ o. (o.status ≡ 0)
    × (StopsAtFile o.written (H.content c.args.shelf.now) (H.content c.perform.new.shelf) (O.held c.args.out.now) (O.held c.perform.new.out) (O.faults c.args.out.now) (O.faults c.perform.new.out) H.write_faults H.write_last c.args.shelf.now c.perform.new.shelf ⊎ StopsAtSink o.written (H.content c.args.shelf.now) (H.content c.perform.new.shelf) (O.held c.args.out.now) (O.held c.perform.new.out) (O.faults c.args.out.now) (O.faults c.perform.new.out) H.write_faults H.write_last c.args.shelf.now c.perform.new.shelf)))))
    (subst (λ o. IsSomeAnd o (λ (r : Request). OnSources (task_of r) (H.content c.args.shelf.now) (I.left c.args.input.now) (λ files bytes. SomeOutput (texts c.args.words.items) c.args.limits files bytes (λ o. (o.status ≡ 0)
    × (StopsAtFile o.written (H.content c.args.shelf.now) (H.content c.perform.new.shelf) (O.held c.args.out.now) (O.held c.perform.new.out) (O.faults c.args.out.now) (O.faults c.perform.new.out) H.write_faults H.write_last c.args.shelf.now c.perform.new.shelf ⊎ StopsAtSink o.written (H.content c.args.shelf.now) (H.content c.perform.new.shelf) (O.held c.args.out.now) (O.held c.perform.new.out) (O.faults c.args.out.now) (O.faults c.perform.new.out) H.write_faults H.write_last c.args.shelf.now c.perform.new.shelf))))) are)
    (write_fault (texts c.args.words.items) request c.args.limits (H.content c.args.shelf.now) (I.left c.args.input.now) (sym are) (H.content c.perform.new.shelf) (O.held c.args.out.now) (O.held c.perform.new.out) (O.faults c.args.out.now) (O.faults c.perform.new.out) H.write_faults H.write_last c.args.shelf.now c.perform.new.shelf c.perform.result c.perform.ensures.runs)

pub returns-in-Ok-Some-clause-no_files : goal.returns-in-Ok-Some-clause-no_files
returns-in-Ok-Some-clause-no_files g c =
    let H = g.H.Shelf in
    let I = g.I.Source in
    let O = g.O.Sink in
    let request = c.in-Ok-Some.request in
    let are : Some request ≡ command (texts c.args.words.items) = sym c.in-Ok-Some.field-0-is ∙ c.in-Ok-Some.ensures.command ∙ ap (λ (ws : List (String Global)). command (texts ws)) c.as_slice.ensures.value in
    subst (λ o. IfSome o (λ (r : Request). (task_of r).writes_files ≡ false → IsUnwritten (H.content c.args.shelf.now) (H.content c.perform.new.shelf) H.write_faults H.write_last c.args.shelf.now c.perform.new.shelf)) are c.perform.ensures.no_files

pub returns-in-Ok-Some-clause-opens : goal.returns-in-Ok-Some-clause-opens
returns-in-Ok-Some-clause-opens g c =
    let H = g.H.Shelf in
    let are : Some c.in-Ok-Some.request ≡ command (texts c.args.words.items) = sym c.in-Ok-Some.field-0-is ∙ c.in-Ok-Some.ensures.command ∙ ap (λ (ws : List (String Global)). command (texts ws)) c.as_slice.ensures.value in
    subst (λ o. H.opens c.perform.new.shelf ≤ H.opens c.args.shelf.now + files_read o) are c.perform.ensures.opens

pub returns-in-Ok-Some-clause-input : goal.returns-in-Ok-Some-clause-input
returns-in-Ok-Some-clause-input g c =
    let H = g.H.Shelf in
    let I = g.I.Source in
    let O = g.O.Sink in
    let request = c.in-Ok-Some.request in
    let are : Some request ≡ command (texts c.args.words.items) = sym c.in-Ok-Some.field-0-is ∙ c.in-Ok-Some.ensures.command ∙ ap (λ (ws : List (String Global)). command (texts ws)) c.as_slice.ensures.value in
    subst (λ o. IfSome o (λ (r : Request). (task_of r).reads_input ≡ false → c.perform.new.input ≡ c.args.input.now)) are c.perform.ensures.unread

pub returns-in-Ok-Some-clause-complete : goal.returns-in-Ok-Some-clause-complete
returns-in-Ok-Some-clause-complete g c other files bytes words told given none shelf from writes sink =
    let H = g.H.Shelf in
    let I = g.I.Source in
    let O = g.O.Sink in
    let request = c.in-Ok-Some.request in
    let are : Some request ≡ command (texts c.args.words.items) = sym c.in-Ok-Some.field-0-is ∙ c.in-Ok-Some.ensures.command ∙ ap (λ (ws : List (String Global)). command (texts ws)) c.as_slice.ensures.value in
    let same : request ≡ other = some_same request other (are ∙ words) in
    complete (texts c.args.words.items) other c.args.limits (H.content c.args.shelf.now) (I.left c.args.input.now) words (H.content c.perform.new.shelf) (O.held c.args.out.now) (O.held c.perform.new.out) (O.faults c.args.out.now) (O.faults c.perform.new.out) H.write_faults H.write_last c.args.shelf.now c.perform.new.shelf
    files bytes told given H.read_faults H.read_last c.args.input.now c.perform.new.input (I.left c.args.input.now) (I.left c.perform.new.input) (I.faults c.args.input.now) (I.faults c.perform.new.input) (H.opens c.args.shelf.now) (H.opens c.perform.new.shelf) c.perform.result
    (subst (λ (r : Request). Runs (OnTold (task_of r) c.args.limits (H.content c.args.shelf.now) (I.left c.args.input.now)) c.perform.result (H.content c.args.shelf.now) (H.content c.perform.new.shelf) (O.held c.args.out.now) (O.held c.perform.new.out) (O.faults c.args.out.now) (O.faults c.perform.new.out) H.write_faults H.write_last c.args.shelf.now c.perform.new.shelf) same c.perform.ensures.runs)
    (subst (λ (r : Request). IfReadFault c.perform.result (λ file. IsFileFault c.args.limits (H.content c.args.shelf.now) (task_of r) file H.read_faults H.read_last c.args.shelf.now c.perform.new.shelf c.args.input.now c.perform.new.input (H.opens c.args.shelf.now) (H.opens c.perform.new.shelf)
    ⊎ (AreAccepted c.args.limits (H.content c.args.shelf.now) (task_of r).reads H.read_faults H.read_last c.args.shelf.now c.perform.new.shelf × IsInputFault c.args.limits (task_of r).reads_input file (I.left c.args.input.now) (I.left c.perform.new.input) (I.faults c.args.input.now) (I.faults c.perform.new.input)))) same c.perform.ensures.read_fault)
    none shelf from writes sink

pub returns-in-Ok-Some-clause-not_accepted : goal.returns-in-Ok-Some-clause-not_accepted
returns-in-Ok-Some-clause-not_accepted g c other files bytes file rec why words told given some shelf from =
    let H = g.H.Shelf in
    let I = g.I.Source in
    let O = g.O.Sink in
    let request = c.in-Ok-Some.request in
    let are : Some request ≡ command (texts c.args.words.items) = sym c.in-Ok-Some.field-0-is ∙ c.in-Ok-Some.ensures.command ∙ ap (λ (ws : List (String Global)). command (texts ws)) c.as_slice.ensures.value in
    let same : request ≡ other = some_same request other (are ∙ words) in
    not_accepted (texts c.args.words.items) other c.args.limits (H.content c.args.shelf.now) (I.left c.args.input.now) words (H.content c.perform.new.shelf) (O.held c.args.out.now) (O.held c.perform.new.out) (O.faults c.args.out.now) (O.faults c.perform.new.out) H.write_faults H.write_last c.args.shelf.now c.perform.new.shelf
    files bytes told given H.read_faults H.read_last c.args.input.now c.perform.new.input (I.left c.args.input.now) (I.left c.perform.new.input) (I.faults c.args.input.now) (I.faults c.perform.new.input) (H.opens c.args.shelf.now) (H.opens c.perform.new.shelf) c.perform.result file rec why
    (subst (λ (r : Request). Runs (OnTold (task_of r) c.args.limits (H.content c.args.shelf.now) (I.left c.args.input.now)) c.perform.result (H.content c.args.shelf.now) (H.content c.perform.new.shelf) (O.held c.args.out.now) (O.held c.perform.new.out) (O.faults c.args.out.now) (O.faults c.perform.new.out) H.write_faults H.write_last c.args.shelf.now c.perform.new.shelf) same c.perform.ensures.runs)
    (subst (λ (r : Request). IfReadFault c.perform.result (λ file. IsFileFault c.args.limits (H.content c.args.shelf.now) (task_of r) file H.read_faults H.read_last c.args.shelf.now c.perform.new.shelf c.args.input.now c.perform.new.input (H.opens c.args.shelf.now) (H.opens c.perform.new.shelf)
    ⊎ (AreAccepted c.args.limits (H.content c.args.shelf.now) (task_of r).reads H.read_faults H.read_last c.args.shelf.now c.perform.new.shelf × IsInputFault c.args.limits (task_of r).reads_input file (I.left c.args.input.now) (I.left c.perform.new.input) (I.faults c.args.input.now) (I.faults c.perform.new.input)))) same c.perform.ensures.read_fault)
    some shelf from

pub perform-requires-clause-workers : goal.perform-requires-clause-workers
perform-requires-clause-workers g c κs within =
    let asked : AreWorkers (workers_asked c.in-Ok-Some.request) = subst (λ o. IfSome o (λ (request : Request). AreWorkers (workers_asked request))) c.in-Ok-Some.field-0-is c.in-Ok-Some.ensures.workers in
    let same = c.workers.ensures in
    let some = asked.some in
    let few = asked.few in
    (omega arith, omega arith)

pub returns-in-Ok-Some-clause-tables : goal.returns-in-Ok-Some-clause-tables
returns-in-Ok-Some-clause-tables g c workers prefix file is =
    let H = g.H.Shelf in
    let I = g.I.Source in
    let O = g.O.Sink in
    written_tables (texts c.args.words.items) workers prefix file c.args.limits (H.content c.args.shelf.now) (H.content c.perform.new.shelf) (I.left c.args.input.now) (O.held c.args.out.now) (O.held c.perform.new.out) c.perform.result is
    (returns-in-Ok-Some-clause-done g c)
