use Rattle.std.proofs.Common.{◌∙◌, ℕ, refl, sym, subst, arith, List}
use Rattle.std.specs.List.{All}
use Rattle.cover_steps.specs.Sound.{Sound}
use Rattle.validator.specs.Verdicts.{IsVerdict}
use Rattle.validator.specs.declared.verdict.Verdict.TheVariants.{Broken}
use Rattle.cover_core.proofs.Cursors.{first-told, first-none}
use Rattle.cover_steps.proofs.Evidences.{All-back}
use Rattle.cover_steps.proofs.Putting.{none_left}
use Rattle.cover_core.proofs.Turn.{Advances, turn-fitting, turn-fits, turn-marked, turn-booked}
use Rattle.cover_core.proofs.book.Book.advance.Goals as goal
use Rattle.cover_core.proofs.book.Book.advance.Goals.{After-drop-job-inside-2, in-Some-pop+in_ok-refute-in-Some-pop, in-None}

pub returns-in_default-clause-done : goal.returns-in_default-clause-done
returns-in_default-clause-done c = first-none c.args.self.now c.first.result c.first.ensures c.in_default.is

pub violations-requires-clause-name : goal.violations-requires-clause-name
violations-requires-clause-name c = refl

pub violations-requires-clause-parts : goal.violations-requires-clause-parts
violations-requires-clause-parts c = refl

pub violations-requires-clause-some : goal.violations-requires-clause-some
violations-requires-clause-some c = let e = c.new-blank.ensures in omega (arith, e)

pub violations-requires-clause-fitting : goal.violations-requires-clause-fitting
violations-requires-clause-fitting c = turn-fitting _ _ _ c.self.invariant.0 c.self.view_is c.in-Some.first.target (first-told c.args.self.now c.first.result c.in-Some.first c.first.ensures c.in-Some.is).0 (first-told c.args.self.now c.first.result c.in-Some.first c.first.ensures c.in-Some.is).1 c.next-next.result c.next-next.ensures.value c.of-job.result (record { target = c.of-job.ensures.target; left = c.of-job.ensures.left ∙ sym (first-told c.args.self.now c.first.result c.in-Some.first c.first.ensures c.in-Some.is).2; from = c.of-job.ensures.from ∙ sym (first-told c.args.self.now c.first.result c.in-Some.first c.first.ensures c.in-Some.is).3; to = c.of-job.ensures.to; shared = c.of-job.ensures.snapshot ∙ c.in_ok-snapshot.ensures.cases })

pub refute-requires : goal.refute-requires
refute-requires c = λ e. absurd (let b = (All-back (λ (pair : ℕ × ℕ). IsVerdict c.of-job.result (Broken pair.0 pair.1)) c.pop.new.self.items c.in-Some-pop.pair (subst (λ (ps : List (ℕ × ℕ)). All (λ (pair : ℕ × ℕ). IsVerdict c.of-job.result (Broken pair.0 pair.1)) ps) c.in-Some-pop.ensures.items c.in_ok-pairs.ensures.pairs)) in let l = b.rising in omega (arith, e, l))

pub mark-requires-clause-fits : goal.mark-requires-clause-fits
mark-requires-clause-fits c = turn-fits _ _ _ c.self.invariant.0 c.self.view_is c.in-Some.first.target (first-told c.args.self.now c.first.result c.in-Some.first c.first.ensures c.in-Some.is).0 (first-told c.args.self.now c.first.result c.in-Some.first c.first.ensures c.in-Some.is).1 c.next-next.result c.next-next.ensures.value c.of-job.result (record { target = c.of-job.ensures.target; left = c.of-job.ensures.left ∙ sym (first-told c.args.self.now c.first.result c.in-Some.first c.first.ensures c.in-Some.is).2; from = c.of-job.ensures.from ∙ sym (first-told c.args.self.now c.first.result c.in-Some.first c.first.ensures c.in-Some.is).3; to = c.of-job.ensures.to; shared = c.of-job.ensures.snapshot ∙ c.in_ok-snapshot.ensures.cases })

pub mark-requires-clause-holds : goal.mark-requires-clause-holds
mark-requires-clause-holds c = c.in_ok-pairs.ensures.none (none_left c.in_ok-pairs.pairs.items (sym c.in_ok-pairs.pairs.ok.0 ∙ c.in-None.ensures.cases.0))

turn : (c : After-drop-job-inside-2) → Advances c.args.self.now c.match-pop.self
turn c = elim c.match-pop.branch [
  | in-None w ↦ subst (Advances c.args.self.now) (sym w.self-is) (turn-marked _ _ _ c.self.invariant.0 c.self.view_is c.in-Some.first.target (first-told c.args.self.now c.first.result c.in-Some.first c.first.ensures c.in-Some.is).0 (first-told c.args.self.now c.first.result c.in-Some.first c.first.ensures c.in-Some.is).1 c.next-next.result c.next-next.ensures.value c.of-job.result (record { target = c.of-job.ensures.target; left = c.of-job.ensures.left ∙ sym (first-told c.args.self.now c.first.result c.in-Some.first c.first.ensures c.in-Some.is).2; from = c.of-job.ensures.from ∙ sym (first-told c.args.self.now c.first.result c.in-Some.first c.first.ensures c.in-Some.is).3; to = c.of-job.ensures.to; shared = c.of-job.ensures.snapshot ∙ c.in_ok-snapshot.ensures.cases }) w.mark.result w.mark.new.self w.mark.ensures.step)
  | in-Some-pop+in_ok-refute-in-Some-pop w ↦ subst (Advances c.args.self.now) (sym w.self-is)
      (turn-booked _ _ _ c.self.invariant.0 c.self.view_is c.in-Some.first.target (first-told c.args.self.now c.first.result c.in-Some.first c.first.ensures c.in-Some.is).0 (first-told c.args.self.now c.first.result c.in-Some.first c.first.ensures c.in-Some.is).1 c.next-next.result c.next-next.ensures.value c.of-job.result (record { target = c.of-job.ensures.target; left = c.of-job.ensures.left ∙ sym (first-told c.args.self.now c.first.result c.in-Some.first c.first.ensures c.in-Some.is).2; from = c.of-job.ensures.from ∙ sym (first-told c.args.self.now c.first.result c.in-Some.first c.first.ensures c.in-Some.is).3; to = c.of-job.ensures.to; shared = c.of-job.ensures.snapshot ∙ c.in_ok-snapshot.ensures.cases }) w.in-Some-pop.pair.0 w.in-Some-pop.pair.1 (All-back (λ (pair : ℕ × ℕ). IsVerdict c.of-job.result (Broken pair.0 pair.1)) c.pop.new.self.items w.in-Some-pop.pair (subst (λ (ps : List (ℕ × ℕ)). All (λ (pair : ℕ × ℕ). IsVerdict c.of-job.result (Broken pair.0 pair.1)) ps) w.in-Some-pop.ensures.items c.in_ok-pairs.ensures.pairs)) w.in_ok-refute-in-Some-pop.field-0 w.refute.new.self w.refute.ensures.sound w.in_ok-refute-in-Some-pop.ensures.step)
]

pub returns-clause-less : goal.returns-clause-less
returns-clause-less c = (turn c).less

pub returns-clause-rows : goal.returns-clause-rows
returns-clause-rows c = (turn c).rows

pub returns-clause-witnesses : goal.returns-clause-witnesses
returns-clause-witnesses c = (turn c).witnesses

pub returns-clause-sound : goal.returns-clause-sound
returns-clause-sound c = elim c.match-pop.branch [
  | in-None w ↦ subst Sound (sym w.self-is) w.mark.ensures.sound
  | in-Some-pop+in_ok-refute-in-Some-pop w ↦ subst Sound (sym w.self-is) w.refute.ensures.sound
]
