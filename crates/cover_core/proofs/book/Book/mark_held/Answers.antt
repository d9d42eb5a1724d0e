use Rattle.cover_core.proofs.Calls.{with_lists}
use Rattle.cover_core.proofs.Cursors.{past-both, to_search, searched}
use Rattle.cover_core.proofs.Marked.{IsBook-held, targets-held}
use Rattle.cover_core.proofs.book.Book.mark_held.Goals as goal

pub mark_each-requires : goal.mark_each-requires
mark_each-requires c = targets-held _ _ _ c.self.invariant.0 c.self.view_is c.args.held.now c.requires

pub first_unfinished-self-inside-requires : goal.first_unfinished-self-inside-requires
first_unfinished-self-inside-requires c = to_search (with_lists (record { rows = c.self.inside.rows; witnesses = c.self.inside.witnesses; candidates = c.self.inside.candidates }) c.mark_each.new.candidates) c.next-next.result c.start-self-inside.result c.next-next.ensures.value (past-both _ c.start-self-inside.result c.start-self-inside.ensures.unfinished c.start-self-inside.ensures.drawable)

pub invariant_of-self : goal.invariant_of-self
invariant_of-self c =
    let book = IsBook-held _ _ _ c.self.invariant.0 c.self.view_is c.args.held.now c.requires c.next-next.result _ c.next-next.ensures.value c.mark_each.ensures in
    let w = searched (with_lists (record { rows = c.self.inside.rows; witnesses = c.self.inside.witnesses; candidates = c.self.inside.candidates }) c.mark_each.new.candidates) _ book c.next-next.result c.start-self-inside.result c.first_unfinished-self-inside.new.cursor c.first_unfinished-self-inside.result c.next-next.ensures.value (past-both _ c.start-self-inside.result c.start-self-inside.ensures.unfinished c.start-self-inside.ensures.drawable) c.first_unfinished-self-inside.ensures.past c.first_unfinished-self-inside.ensures.found in
    (book, c.self.invariant.1, w.past, w.first)

pub returns-clause-sound : goal.returns-clause-sound
returns-clause-sound c = (IsBook-held _ _ _ c.self.invariant.0 c.self.view_is c.args.held.now c.requires c.next-next.result _ c.next-next.ensures.value c.mark_each.ensures).sound
