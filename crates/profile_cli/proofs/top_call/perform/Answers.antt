use Rattle.std.proofs.Common.{◌≡◌, ◌∙◌, ◌+◌, ◌<◌, ◌≤◌, ◌⊎◌, arith, inl, inr, ℕ, List, None, Some, Option, length, get_or, take, refl, sym, ap, subst}
use Rattle.std.specs.Prelude.{IfSome}
use Rattle.rel_base.specs.declared.limits.Limits.{Limits}
use Rattle.rel_base.specs.declared.why.Why.{Why}
use Rattle.ports.specs.Faults.{RoseAt, SameFaults}
use Rattle.ports.specs.Files.{Files, bytes_of}
use Rattle.report_text.specs.Outcome.{fault_line, file_line}
use Rattle.profile_cli.specs.Contents.{contents_of, first_refusal, refused_as, texts_of}
use Rattle.profile_cli.specs.Ends.{AreAccepted, IsFileFault, IsFileRefusal, IsInputFault, IsInputRefusal, OnRead, OnTold, Runs}
use Rattle.profile_cli.specs.Outcomes.{IfReadFault, IfRefused}
use Rattle.profile_cli.specs.Task.{task_of}
use Rattle.task_base.specs.Reading.{Reading, no_reading}
use Rattle.profile_cli.specs.declared.outcome.Outcome.TheVariants.{ReadFault, Refused}
use Rattle.profile_cli.proofs.Ends.{IfReadFault-map, IfRefused-map, OnTold-read, OnTold-refused, Runs-fault, Runs-from, Runs-refused, UnlessFaulted-always, ends_put}
use Rattle.task_base.proofs.Facts.{IfSome-map, SameFaults-trans}
use Rattle.profile_cli.proofs.top_call.perform.Goals as goal

-- what is known of the files where the one at a place is refused
abbrev UnderstandsAll' : Limits → ℕ → ℕ → Why → Option Files → List Reading → Type 0
UnderstandsAll' limits place rec why content reads = IfSome content (λ held.
    (first_refusal limits held (take place reads) ≡ None) × (refused_as (get_or reads place no_reading).1 limits (bytes_of held (get_or reads place no_reading).0) ≡ Some (rec, why))
    × (first_refusal limits held reads ≡ Some ((get_or reads place no_reading).0, rec, why)))

pub returns-in-Read-clause-runs : goal.returns-in-Read-clause-runs
returns-in-Read-clause-runs g c =
    let H = g.H.Shelf in
    let I = g.I.Source in
    let O = g.O.Sink in
    let task = task_of c.args.request in
    let limits = c.args.means.now.limits in
    let rs = c.in-Read.found.relations.items in
    let ts = c.in-Read.found.texts.items in
    let content = H.content c.args.shelf.now in
    let left = I.left c.args.input.now in
    let known : IfSome content (λ held. (first_refusal limits held task.reads ≡ None) × (rs ≡ contents_of held task.reads) × (ts ≡ texts_of held task.reads)) =
    subst (λ (names : List Reading). IfSome content (λ held. (first_refusal limits held names ≡ None) × (rs ≡ contents_of held names) × (ts ≡ texts_of held names))) c.reads_of.ensures c.in-Read.ensures.files in
    Runs-from (O.held c.args.out.now) (O.held c.answer.new.out) (O.faults c.args.out.now) (O.faults c.answer.new.out) H.write_faults H.write_last c.args.shelf.now c.read_files.new.shelf c.answer.new.shelf c.in-Read.ensures.writes
    (OnRead task limits rs ts left) (OnTold task limits content left) (OnTold-read task limits content left rs ts known) content (H.content c.answer.new.shelf) c.answer.result
    (subst (λ (from : Option Files). Runs (OnRead task limits rs ts left) c.answer.result from (H.content c.answer.new.shelf) (O.held c.args.out.now) (O.held c.answer.new.out) (O.faults c.args.out.now) (O.faults c.answer.new.out)
    H.write_faults H.write_last c.read_files.new.shelf c.answer.new.shelf) c.in-Read.ensures.content c.answer.ensures.runs)

pub returns-in-Read-clause-refused : goal.returns-in-Read-clause-refused
returns-in-Read-clause-refused g c =
    let H = g.H.Shelf in
    let I = g.I.Source in
    let task = task_of c.args.request in
    let limits = c.args.means.now.limits in
    let content = H.content c.args.shelf.now in
    let accepted : IfSome content (λ held. first_refusal limits held task.reads ≡ None) =
    IfSome-map content (λ held k. k.0)
    (subst (λ (names : List Reading). IfSome content (λ held. (first_refusal limits held names ≡ None) × (c.in-Read.found.relations.items ≡ contents_of held names) × (c.in-Read.found.texts.items ≡ texts_of held names))) c.reads_of.ensures c.in-Read.ensures.files) in
    let shelf = SameFaults-trans H.read_faults H.read_last c.args.shelf.now c.read_files.new.shelf c.answer.new.shelf c.in-Read.ensures.reads c.answer.ensures.reads in
    IfRefused-map c.answer.result (λ file rec why. IsInputRefusal limits task.reads_input file rec why (I.left c.args.input.now) (I.left c.answer.new.input))
    (λ file rec why. IsFileRefusal limits content task file rec why c.args.input.now c.answer.new.input (H.opens c.args.shelf.now) (H.opens c.answer.new.shelf)
    ⊎ (AreAccepted limits content task.reads H.read_faults H.read_last c.args.shelf.now c.answer.new.shelf × IsInputRefusal limits task.reads_input file rec why (I.left c.args.input.now) (I.left c.answer.new.input)))
    (λ file rec why x. inr (record { accepted = accepted; shelf = shelf }, x)) c.answer.ensures.refused

pub returns-in-Read-clause-read_fault : goal.returns-in-Read-clause-read_fault
returns-in-Read-clause-read_fault g c =
    let H = g.H.Shelf in
    let I = g.I.Source in
    let task = task_of c.args.request in
    let limits = c.args.means.now.limits in
    let content = H.content c.args.shelf.now in
    let accepted : IfSome content (λ held. first_refusal limits held task.reads ≡ None) =
    IfSome-map content (λ held k. k.0)
    (subst (λ (names : List Reading). IfSome content (λ held. (first_refusal limits held names ≡ None) × (c.in-Read.found.relations.items ≡ contents_of held names) × (c.in-Read.found.texts.items ≡ texts_of held names))) c.reads_of.ensures c.in-Read.ensures.files) in
    let shelf = SameFaults-trans H.read_faults H.read_last c.args.shelf.now c.read_files.new.shelf c.answer.new.shelf c.in-Read.ensures.reads c.answer.ensures.reads in
    IfReadFault-map c.answer.result (λ file. IsInputFault limits task.reads_input file (I.left c.args.input.now) (I.left c.answer.new.input) (I.faults c.args.input.now) (I.faults c.answer.new.input))
    (λ file. IsFileFault limits content task file H.read_faults H.read_last c.args.shelf.now c.answer.new.shelf c.args.input.now c.answer.new.input (H.opens c.args.shelf.now) (H.opens c.answer.new.shelf)
    ⊎ (AreAccepted limits content task.reads H.read_faults H.read_last c.args.shelf.now c.answer.new.shelf
    × IsInputFault limits task.reads_input file (I.left c.args.input.now) (I.left c.answer.new.input) (I.faults c.args.input.now) (I.faults c.answer.new.input)))
    (λ file x. inr (record { accepted = accepted; shelf = shelf }, x)) c.answer.ensures.read_fault

pub returns-in-Read-clause-reads : goal.returns-in-Read-clause-reads
returns-in-Read-clause-reads g c =
    let H = g.H.Shelf in
    UnlessFaulted-always c.answer.result (SameFaults H.read_faults H.read_last c.args.shelf.now c.answer.new.shelf)
    (SameFaults-trans H.read_faults H.read_last c.args.shelf.now c.read_files.new.shelf c.answer.new.shelf c.in-Read.ensures.reads c.answer.ensures.reads)

pub returns-in-Read-clause-no_files : goal.returns-in-Read-clause-no_files
returns-in-Read-clause-no_files g c none =
    let H = g.H.Shelf in
    let u = c.answer.ensures.no_files none in
    record { files = u.files ∙ c.in-Read.ensures.content; shelf = SameFaults-trans H.write_faults H.write_last c.args.shelf.now c.read_files.new.shelf c.answer.new.shelf c.in-Read.ensures.writes u.shelf }

pub returns-in-Read-clause-opens : goal.returns-in-Read-clause-opens
returns-in-Read-clause-opens g c =
    let H = g.H.Shelf in
    rw c.answer.ensures.opens
    (subst (λ (names : List Reading). H.opens c.read_files.new.shelf ≤ H.opens c.args.shelf.now + length names) c.reads_of.ensures c.in-Read.ensures.opens)

pub returns-in-Refused-clause-opens : goal.returns-in-Refused-clause-opens
returns-in-Refused-clause-opens g c =
    let within = subst (λ (names : List Reading). c.in-Refused.place < length names) c.reads_of.ensures c.in-Refused.ensures.places in
    let opens = c.in-Refused.ensures.opens in
    omega arith

pub returns-in-Fault-clause-opens : goal.returns-in-Fault-clause-opens
returns-in-Fault-clause-opens g c =
    let within = subst (λ (names : List Reading). c.in-Fault.place < length names) c.reads_of.ensures c.in-Fault.ensures.places in
    let opens = c.in-Fault.ensures.opens in
    omega arith

pub returns-in-NoMemory-clause-opens : goal.returns-in-NoMemory-clause-opens
returns-in-NoMemory-clause-opens g c =
    let H = g.H.Shelf in
    subst (λ (names : List Reading). H.opens c.read_files.new.shelf ≤ H.opens c.args.shelf.now + length names) c.reads_of.ensures c.in-NoMemory.ensures.opens

pub returns-in-Refused-clause-runs : goal.returns-in-Refused-clause-runs
returns-in-Refused-clause-runs g c =
    let H = g.H.Shelf in
    let I = g.I.Source in
    let O = g.O.Sink in
    let task = task_of c.args.request in
    let limits = c.args.means.now.limits in
    let content = H.content c.args.shelf.now in
    let place = c.in-Refused.place in
    let file = c.into_file.result in
    let known : UnderstandsAll' limits place c.in-Refused.rec c.in-Refused.why content task.reads =
    subst (λ (names : List Reading). UnderstandsAll' limits place c.in-Refused.rec c.in-Refused.why content names) c.reads_of.ensures c.in-Refused.ensures.files in
    Runs-refused (OnTold task limits content (I.left c.args.input.now)) c.refuse.result content (H.content c.read_files.new.shelf) (O.held c.args.out.now) (O.held c.refuse.new.out) (O.faults c.args.out.now) (O.faults c.refuse.new.out)
    H.write_faults H.write_last c.args.shelf.now c.read_files.new.shelf (record { files = c.in-Refused.ensures.content; shelf = c.in-Refused.ensures.writes })
    file c.in-Refused.rec c.in-Refused.why c.refuse.ensures.ends
    (OnTold-refused task limits content (I.left c.args.input.now) file c.in-Refused.rec c.in-Refused.why
    (IfSome-map content (λ held k. k.2 ∙ ap (λ (name : List ℕ). Some (name, c.in-Refused.rec, c.in-Refused.why)) (sym c.into_file.ensures)) known))

pub returns-in-Refused-clause-refused : goal.returns-in-Refused-clause-refused
returns-in-Refused-clause-refused g c =
    let H = g.H.Shelf in
    let I = g.I.Source in
    let O = g.O.Sink in
    let task = task_of c.args.request in
    let limits = c.args.means.now.limits in
    let content = H.content c.args.shelf.now in
    let place = c.in-Refused.place in
    let file = c.into_file.result in
    let known = subst (λ (names : List Reading). UnderstandsAll' limits place c.in-Refused.rec c.in-Refused.why content names) c.reads_of.ensures c.in-Refused.ensures.files in
    let within : place < length task.reads = subst (λ (names : List Reading). place < length names) c.reads_of.ensures c.in-Refused.ensures.places in
    ends_put c.refuse.result (Refused file c.in-Refused.rec c.in-Refused.why) (file_line file c.in-Refused.rec c.in-Refused.why) (O.held c.args.out.now) (O.held c.refuse.new.out) (O.faults c.args.out.now) (O.faults c.refuse.new.out)
    (λ x. IfRefused x (λ name rec why. IsFileRefusal limits content task name rec why c.args.input.now c.args.input.now (H.opens c.args.shelf.now) (H.opens c.read_files.new.shelf)
    ⊎ (AreAccepted limits content task.reads H.read_faults H.read_last c.args.shelf.now c.read_files.new.shelf × IsInputRefusal limits task.reads_input name rec why (I.left c.args.input.now) (I.left c.args.input.now))))
    c.refuse.ensures.ends (λ nothing. tt)
    (λ put. inl (record {
      reached = record { place = place; within = within; name = sym c.into_file.ensures; accepted = IfSome-map content (λ held k. k.0) known; opened = c.in-Refused.ensures.opens };
      refused = IfSome-map content (λ held k. ap (λ (name : List ℕ). refused_as (get_or task.reads place no_reading).1 limits (bytes_of held name)) c.into_file.ensures ∙ k.1) known;
      unread = refl;
    }))

pub returns-in-Fault-clause-runs : goal.returns-in-Fault-clause-runs
returns-in-Fault-clause-runs g c =
    let H = g.H.Shelf in
    let I = g.I.Source in
    let O = g.O.Sink in
    let task = task_of c.args.request in
    let content = H.content c.args.shelf.now in
    Runs-fault (OnTold task c.args.means.now.limits content (I.left c.args.input.now)) c.end_at_fault.result content (H.content c.read_files.new.shelf) (O.held c.args.out.now) (O.held c.end_at_fault.new.out) (O.faults c.args.out.now) (O.faults c.end_at_fault.new.out)
    H.write_faults H.write_last c.args.shelf.now c.read_files.new.shelf (record { files = c.in-Fault.ensures.content; shelf = c.in-Fault.ensures.writes })
    c.into_file-in-Fault.result c.end_at_fault.ensures.ends

pub returns-in-Fault-clause-read_fault : goal.returns-in-Fault-clause-read_fault
returns-in-Fault-clause-read_fault g c =
    let H = g.H.Shelf in
    let I = g.I.Source in
    let O = g.O.Sink in
    let task = task_of c.args.request in
    let limits = c.args.means.now.limits in
    let content = H.content c.args.shelf.now in
    let place = c.in-Fault.place in
    let file = c.into_file-in-Fault.result in
    let known : IfSome content (λ held. first_refusal limits held (take place task.reads) ≡ None) =
    subst (λ (names : List Reading). IfSome content (λ held. first_refusal limits held (take place names) ≡ None)) c.reads_of.ensures c.in-Fault.ensures.files in
    let within : place < length task.reads = subst (λ (names : List Reading). place < length names) c.reads_of.ensures c.in-Fault.ensures.places in
    let at : (get_or c.reads_of.result place no_reading).0 ≡ file = ap (λ (names : List Reading). (get_or names place no_reading).0) c.reads_of.ensures ∙ sym c.into_file-in-Fault.ensures in
    let rose : RoseAt file H.read_faults H.read_last c.args.shelf.now c.read_files.new.shelf =
    subst (λ (name : List ℕ). RoseAt name H.read_faults H.read_last c.args.shelf.now c.read_files.new.shelf) at c.in-Fault.ensures.reads in
    ends_put c.end_at_fault.result (ReadFault file) (fault_line file) (O.held c.args.out.now) (O.held c.end_at_fault.new.out) (O.faults c.args.out.now) (O.faults c.end_at_fault.new.out)
    (λ x. IfReadFault x (λ name. IsFileFault limits content task name H.read_faults H.read_last c.args.shelf.now c.read_files.new.shelf c.args.input.now c.args.input.now (H.opens c.args.shelf.now) (H.opens c.read_files.new.shelf)
    ⊎ (AreAccepted limits content task.reads H.read_faults H.read_last c.args.shelf.now c.read_files.new.shelf
    × IsInputFault limits task.reads_input name (I.left c.args.input.now) (I.left c.args.input.now) (I.faults c.args.input.now) (I.faults c.args.input.now))))
    c.end_at_fault.ensures.ends (λ nothing. tt)
    (λ put. inl (record {
      reached = record { place = place; within = within; name = sym c.into_file-in-Fault.ensures; accepted = known; opened = c.in-Fault.ensures.opens };
      shelf = rose;
      unread = refl;
    }))
