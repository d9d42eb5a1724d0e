use Rattle.cover_core.proofs.Calls.{with_lists}
use Rattle.cover_core.proofs.Whole.{mark-all}
use Rattle.cover_core.proofs.Cursors.{past-remarked, to_search, searched, target-of}
use Rattle.cover_core.proofs.book.Book.mark.Goals as goal

pub first_unfinished-self-inside-requires : goal.first_unfinished-self-inside-requires
first_unfinished-self-inside-requires c = to_search (with_lists (record { rows = c.self.inside.rows; witnesses = c.self.inside.witnesses; candidates = c.self.inside.candidates }) c.mark-marking.new.self) c.next-next.result c.let_go.new.self c.next-next.ensures.value (past-remarked (record { rows = c.self.inside.rows; witnesses = c.self.inside.witnesses; candidates = c.self.inside.candidates }) c.target-target.result c.left-left.result c.mark-marking.new.self (target-of _ _ _ c.self.invariant.0 c.self.view_is c.target-target.result _ c.target-target.ensures c.requires.fits.target) c.to-to.result c.next-next.result c.mark-marking.ensures.list c.next-next.ensures.value c.mark-marking.result c.mark-marking.ensures.answer c.is_late-late.result c.is_late-late.ensures c.self.inside.cursors c.let_go.new.self c.let_go.ensures.unfinished c.let_go.ensures.drawable c.self.invariant.2)

pub invariant_of-self : goal.invariant_of-self
invariant_of-self c =
    let all = mark-all _ _ _ c.self.invariant.0 c.self.view_is c.args.job.now c.target-target.result c.left-left.result c.to-to.result c.mark-marking.result c.mark-marking.new.self c.target-target.ensures c.left-left.ensures c.to-to.ensures c.requires.fits c.requires.holds c.mark-marking.ensures.answer c.mark-marking.ensures.list in
    let w = searched (with_lists (record { rows = c.self.inside.rows; witnesses = c.self.inside.witnesses; candidates = c.self.inside.candidates }) c.mark-marking.new.self) _ all.kept c.next-next.result c.let_go.new.self c.first_unfinished-self-inside.new.cursor c.first_unfinished-self-inside.result c.next-next.ensures.value (past-remarked (record { rows = c.self.inside.rows; witnesses = c.self.inside.witnesses; candidates = c.self.inside.candidates }) c.target-target.result c.left-left.result c.mark-marking.new.self (target-of _ _ _ c.self.invariant.0 c.self.view_is c.target-target.result _ c.target-target.ensures c.requires.fits.target) c.to-to.result c.next-next.result c.mark-marking.ensures.list c.next-next.ensures.value c.mark-marking.result c.mark-marking.ensures.answer c.is_late-late.result c.is_late-late.ensures c.self.inside.cursors c.let_go.new.self c.let_go.ensures.unfinished c.let_go.ensures.drawable c.self.invariant.2) c.first_unfinished-self-inside.ensures.past c.first_unfinished-self-inside.ensures.found in
    (all.kept, c.self.invariant.1, w.past, w.first)

pub returns-clause-step : goal.returns-clause-step
returns-clause-step c = (mark-all _ _ _ c.self.invariant.0 c.self.view_is c.args.job.now c.target-target.result c.left-left.result c.to-to.result c.mark-marking.result c.mark-marking.new.self c.target-target.ensures c.left-left.ensures c.to-to.ensures c.requires.fits c.requires.holds c.mark-marking.ensures.answer c.mark-marking.ensures.list).step

pub returns-clause-sound : goal.returns-clause-sound
returns-clause-sound c = (mark-all _ _ _ c.self.invariant.0 c.self.view_is c.args.job.now c.target-target.result c.left-left.result c.to-to.result c.mark-marking.result c.mark-marking.new.self c.target-target.ensures c.left-left.ensures c.to-to.ensures c.requires.fits c.requires.holds c.mark-marking.ensures.answer c.mark-marking.ensures.list).kept.sound
