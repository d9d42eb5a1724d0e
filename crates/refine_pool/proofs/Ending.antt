-- What the book is when a phase is over.
use Rattle.std.proofs.Common.{◌≡◌, [], ◌∷◌, ◌++◌, None, refl, sym, ap, ◌∙◌, subst, append_assoc}
use Rattle.cover_steps.specs.declared.step.Call.{Call}
use Rattle.cover_steps.specs.declared.step.Call.TheVariants.{Draw, Refute, Mark, Release, Apply, Settle}
use Rattle.cover_steps.specs.Core.{Core, first_unfinished}
use Rattle.cover_steps.specs.Sound.{Sound}
use Rattle.cover_core.specs.declared.answers.Draw.TheVariants as draws
use Rattle.desk_lock.specs.History.{Legal}
use Rattle.desk_lock.proofs.Histories.{legal-begins, legal-last}
use Rattle.desk.specs.declared.turns.Reply.{Reply}
use Rattle.desk.specs.declared.turns.Reply.TheVariants.{Drawn}
use Rattle.desk.specs.Turns.{booked, allowed}
use Rattle.desk.specs.Desks.{History}
use Rattle.desk.proofs.Running.{quiet_turns_keep, witnesses_stand}
use Rattle.refine_pool.specs.Phases.{KeepsWitnesses}
use Rattle.refine_pool.specs.Crews.{SettledLast}
use Rattle.refine_pool.proofs.Quiet.{quiet-others}

pub keeps_witnesses : (opened book : Core) (history : History) → Sound opened → Legal booked allowed opened history book → KeepsWitnesses opened book
keeps_witnesses opened book history sound l w listed stands = (witnesses_stand opened sound).there opened book [] history w refl l listed stands

pub keeps_all : (book : Core) → KeepsWitnesses book book
keeps_all book w listed stands = listed

-- a draw that answers that all is settled finds no unfinished candidate, and changes nothing
found_none : (s new : Core) (call : Call) → booked s call (Drawn draws.Settled) new → first_unfinished new ≡ None
found_none s new Draw d = ap first_unfinished d.0.1 ∙ d.0.0
found_none s new (Refute i j) d = absurd d.1
found_none s new (Mark job) d = absurd d.1
found_none s new (Release job) d = absurd d.1
found_none s new (Apply ops) d = absurd d.1
found_none s new Settle d = absurd d.1

pub finished : (opened book : Core) (history : History) → Sound opened → Legal booked allowed opened history book → SettledLast history → first_unfinished book ≡ None
finished opened book history sound l s =
    let upto : History = s.past ++ s.entry ∷ [] in
    let is : history ≡ upto ++ s.later = s.parts ∙ sym (append_assoc s.past (s.entry ∷ []) s.later) in
    let parts = legal-begins booked allowed opened upto s.later book (subst (λ (h : History). Legal booked allowed opened h book) is l) in
    let last = legal-last booked allowed opened s.past s.entry parts.0 parts.1 in
    let none : first_unfinished parts.0 ≡ None = found_none last.0 parts.0 s.entry.call (subst (λ (r : Reply). booked last.0 s.entry.call r parts.0) s.settled last.3) in
    quiet_turns_keep opened parts.0 book upto s.later sound parts.1 parts.2 (quiet-others opened upto parts.0 s.later book parts.2 s.quiet) none
