use Rattle.std.proofs.Common.{◌≡◌, ◌∙◌, false, sym, ap, subst, cond}
use Rattle.candidate_cover.specs.Lists.{CandLists}
use Rattle.cover_core.specs.Past.{ArePast, IsFirst}
use Rattle.cover_core.specs.declared.answers.Release.TheVariants as releases
use Rattle.cover_core.proofs.Calls.{with_lists}
use Rattle.cover_core.proofs.Whole.{release-all}
use Rattle.cover_core.proofs.Cursors.{past-released, past-dropped, target-of}
use Rattle.cover_core.proofs.Holding.{first-held}
use Rattle.cover_core.proofs.book.Book.release.Goals as goal

pub invariant_of-self : goal.invariant_of-self
invariant_of-self c =
    let same : c.hold.new.self ≡ c.self.inside.candidates = past-dropped (record { rows = c.self.inside.rows; witnesses = c.self.inside.witnesses; candidates = c.self.inside.candidates }) c.target-target.result c.left-left.result c.hold.new.self c.self.inside.cursors (sym c.hold.ensures.answer ∙ c.if-not-hold.true) c.hold.ensures.list in (
      (release-all _ _ _ c.self.invariant.0 c.self.view_is c.args.job.now c.target-target.result c.left-left.result c.hold.result releases.Dropped c.hold.new.self c.target-target.ensures c.left-left.ensures c.requires.target c.hold.ensures.answer (sym (ap (λ b. cond b releases.Released releases.Dropped) c.if-not-hold.true)) c.hold.ensures.list).kept,
      c.self.invariant.1,
      subst (λ (l : CandLists). ArePast (with_lists (record { rows = c.self.inside.rows; witnesses = c.self.inside.witnesses; candidates = c.self.inside.candidates }) l) c.self.inside.cursors) (sym same) c.self.invariant.2,
      subst (λ (l : CandLists). IsFirst (with_lists (record { rows = c.self.inside.rows; witnesses = c.self.inside.witnesses; candidates = c.self.inside.candidates }) l) c.self.inside.first) (sym same) c.self.invariant.3,
    )

pub returns-then-not-hold-clause-step : goal.returns-then-not-hold-clause-step
returns-then-not-hold-clause-step c = (release-all _ _ _ c.self.invariant.0 c.self.view_is c.args.job.now c.target-target.result c.left-left.result c.hold.result releases.Dropped c.hold.new.self c.target-target.ensures c.left-left.ensures c.requires.target c.hold.ensures.answer (sym (ap (λ b. cond b releases.Released releases.Dropped) c.if-not-hold.true)) c.hold.ensures.list).step

pub returns-then-not-hold-clause-sound : goal.returns-then-not-hold-clause-sound
returns-then-not-hold-clause-sound c = (release-all _ _ _ c.self.invariant.0 c.self.view_is c.args.job.now c.target-target.result c.left-left.result c.hold.result releases.Dropped c.hold.new.self c.target-target.ensures c.left-left.ensures c.requires.target c.hold.ensures.answer (sym (ap (λ b. cond b releases.Released releases.Dropped) c.if-not-hold.true)) c.hold.ensures.list).kept.sound

pub invariant_of-self-2 : goal.invariant_of-self-2
invariant_of-self-2 c =
    let all = release-all _ _ _ c.self.invariant.0 c.self.view_is c.args.job.now c.target-target.result c.left-left.result c.hold.result releases.Released c.hold.new.self c.target-target.ensures c.left-left.ensures c.requires.target c.hold.ensures.answer (sym (ap (λ b. cond b releases.Released releases.Dropped) c.if-not-hold.false)) c.hold.ensures.list in
    let past = past-released (record { rows = c.self.inside.rows; witnesses = c.self.inside.witnesses; candidates = c.self.inside.candidates }) c.target-target.result c.left-left.result c.hold.new.self (target-of _ _ _ c.self.invariant.0 c.self.view_is c.target-target.result _ c.target-target.ensures c.requires.target) c.self.inside.cursors c.let_go.new.self c.let_go.ensures.unfinished c.let_go.ensures.drawable c.hold.ensures.list c.self.invariant.2 in
    let first = first-held (record { rows = c.self.inside.rows; witnesses = c.self.inside.witnesses; candidates = c.self.inside.candidates }) c.target-target.result c.left-left.result false c.hold.new.self c.self.inside.first (target-of _ _ _ c.self.invariant.0 c.self.view_is c.target-target.result _ c.target-target.ensures c.requires.target) c.hold.ensures.list c.self.invariant.3 in
    (all.kept, c.self.invariant.1, past, first)

pub returns-clause-step : goal.returns-clause-step
returns-clause-step c = (release-all _ _ _ c.self.invariant.0 c.self.view_is c.args.job.now c.target-target.result c.left-left.result c.hold.result releases.Released c.hold.new.self c.target-target.ensures c.left-left.ensures c.requires.target c.hold.ensures.answer (sym (ap (λ b. cond b releases.Released releases.Dropped) c.if-not-hold.false)) c.hold.ensures.list).step

pub returns-clause-sound : goal.returns-clause-sound
returns-clause-sound c = (release-all _ _ _ c.self.invariant.0 c.self.view_is c.args.job.now c.target-target.result c.left-left.result c.hold.result releases.Released c.hold.new.self c.target-target.ensures c.left-left.ensures c.requires.target c.hold.ensures.answer (sym (ap (λ b. cond b releases.Released releases.Dropped) c.if-not-hold.false)) c.hold.ensures.list).kept.sound
