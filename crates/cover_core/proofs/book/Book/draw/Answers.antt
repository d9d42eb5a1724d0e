use Rattle.std.proofs.Common.{◌≡◌, ℕ, ◌∙◌, true, sym, refl, subst, None}
use Rattle.cover_steps.specs.Core.{Core, is_drawable, first_drawable}
use Rattle.cover_steps.specs.Steps as steps
use Rattle.cover_core.specs.Past.{IsPast}
use Rattle.cover_core.specs.Replies.{reply_of_draw}
use Rattle.cover_core.specs.declared.answers.Draw.{Draw}
use Rattle.cover_core.proofs.Whole.{DrawAll, draw-all, draw-target, none_drawable, some_drawable}
use Rattle.cover_core.proofs.Turn.{on-err}
use Rattle.cover_core.proofs.Cursors.{past-held, first-told, first-none}
use Rattle.cover_core.proofs.Holding.{first-held}
use Rattle.cover_core.proofs.book.Book.draw.Goals as goal
use Rattle.cover_core.proofs.book.Book.draw.Goals.{After-of-job, in-Some-first, in-None-first}

all : (c : After-of-job) → DrawAll _ _ _ c.self.invariant.0 c.self.view_is c.of-job.result c.hold.new.self
all c = draw-all _ _ _ c.self.invariant.0 c.self.view_is c.next-next.result c.first_drawable.result c.in-Some.target c.in-Some.cand c.of-job.result c.hold.new.self c.next-next.ensures.value c.first_drawable.ensures.found c.in-Some.is
    (record { target = c.of-job.ensures.target; left = c.of-job.ensures.left; from = c.of-job.ensures.from; to = c.of-job.ensures.to; shared = c.of-job.ensures.snapshot ∙ c.in_ok-snapshot-in-Some.ensures.cases }) c.hold.ensures.list

pub hold-requires : goal.hold-requires
hold-requires c = draw-target _ _ _ c.self.invariant.0 c.self.view_is c.next-next.result c.first_drawable.result c.in-Some.target c.in-Some.cand c.next-next.ensures.value c.first_drawable.ensures.found c.in-Some.is

pub invariant_of-self : goal.invariant_of-self
invariant_of-self c = (c.self.invariant.0, c.self.invariant.1, (record { unfinished = c.self.invariant.2.unfinished; drawable = subst (λ (n : ℕ). IsPast (is_drawable n) c.self.inside.candidates c.first_drawable.new.cursor) c.next-next.ensures.value c.first_drawable.ensures.past }), c.self.invariant.3)

pub returns-in_ok-snapshot-in-Some-clause-step : goal.returns-in_ok-snapshot-in-Some-clause-step
returns-in_ok-snapshot-in-Some-clause-step c = (all c).step

pub returns-in_ok-snapshot-in-Some-clause-drawn : goal.returns-in_ok-snapshot-in-Some-clause-drawn
returns-in_ok-snapshot-in-Some-clause-drawn c = (all c).fits

pub returns-in_ok-snapshot-in-Some-clause-sound : goal.returns-in_ok-snapshot-in-Some-clause-sound
returns-in_ok-snapshot-in-Some-clause-sound c = (all c).kept.sound

pub invariant_of-self-in-Some : goal.invariant_of-self-in-Some
invariant_of-self-in-Some c =
    let past = past-held (record { rows = c.self.inside.rows; witnesses = c.self.inside.witnesses; candidates = c.self.inside.candidates }) c.in-Some.target c.in-Some.cand.left c.hold.new.self (draw-target _ _ _ c.self.invariant.0 c.self.view_is c.next-next.result c.first_drawable.result c.in-Some.target c.in-Some.cand c.next-next.ensures.value c.first_drawable.ensures.found c.in-Some.is) (record { unfinished = c.self.inside.cursors.unfinished; drawable = c.first_drawable.new.cursor }) c.hold.ensures.list (record { unfinished = c.self.invariant.2.unfinished; drawable = subst (λ (n : ℕ). IsPast (is_drawable n) c.self.inside.candidates c.first_drawable.new.cursor) c.next-next.ensures.value c.first_drawable.ensures.past }) in
    let first = first-held (record { rows = c.self.inside.rows; witnesses = c.self.inside.witnesses; candidates = c.self.inside.candidates }) c.in-Some.target c.in-Some.cand.left true c.hold.new.self c.self.inside.first (draw-target _ _ _ c.self.invariant.0 c.self.view_is c.next-next.result c.first_drawable.result c.in-Some.target c.in-Some.cand c.next-next.ensures.value c.first_drawable.ensures.found c.in-Some.is) c.hold.ensures.list c.self.invariant.3 in
    ((all c).kept, c.self.invariant.1, past, first)

pub returns-after-first-clause-step : goal.returns-after-first-clause-step
returns-after-first-clause-step c =
    let none = none_drawable _ _ _ c.self.invariant.0 c.self.view_is c.next-next.result c.first_drawable.result c.next-next.ensures.value c.first_drawable.ensures.found c.in-None.is in
    let same : Core = record { rows = c.self.inside.rows; witnesses = c.self.inside.witnesses; candidates = c.self.inside.candidates } in
    elim c.match-first.branch [
      | in-Some-first w ↦
          let told = first-told same c.first.result w.in-Some-first.first c.first.ensures w.in-Some-first.is in
          subst (λ (m : Core). steps.IsDrawing m (reply_of_draw c.match-first.result) same) c.self.view_is
          (subst (λ (d : Draw). steps.IsDrawing same (reply_of_draw d) same) (sym w.result-is) (record { none = subst (λ (m : Core). first_drawable m ≡ None) (sym c.self.view_is) none; first = (told.0, told.1, told.2) }, refl))
      | in-None-first w ↦
          subst (λ (m : Core). steps.IsDrawing m (reply_of_draw c.match-first.result) same) c.self.view_is
          (subst (λ (d : Draw). steps.IsDrawing same (reply_of_draw d) same) (sym w.result-is) (first-none same c.first.result c.first.ensures w.in-None-first.is, refl))
    ]

pub returns-in_err-snapshot-in-Some-clause-wanted : goal.returns-in_err-snapshot-in-Some-clause-wanted
returns-in_err-snapshot-in-Some-clause-wanted c = on-err c.from_residual.result _ (some_drawable _ _ _ c.self.invariant.0 c.self.view_is c.next-next.result c.first_drawable.result (c.in-Some.target, c.in-Some.cand) c.next-next.ensures.value c.first_drawable.ensures.found c.in-Some.is)
