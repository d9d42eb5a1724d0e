use Rattle.std.proofs.Common.{◌∙◌}
use Rattle.cover_core.proofs.Calls.{with_lists}
use Rattle.cover_core.proofs.Forgetting.{IsBook-refreshed, told_true}
use Rattle.cover_core.proofs.Cursors.{past-both, to_search, searched}
use Rattle.cover_core.proofs.book.Book.forget.Goals as goal

pub first_unfinished-self-inside-requires : goal.first_unfinished-self-inside-requires
first_unfinished-self-inside-requires c = to_search (with_lists (record { rows = c.self.inside.rows; witnesses = c.self.inside.witnesses; candidates = c.self.inside.candidates }) c.replace-candidates.new.dest) c.next-next.result c.start-self-inside.result c.next-next.ensures.value (past-both _ c.start-self-inside.result c.start-self-inside.ensures.unfinished c.start-self-inside.ensures.drawable)

pub invariant_of-self : goal.invariant_of-self
invariant_of-self c =
    let book = (IsBook-refreshed _ _ _ c.self.invariant.0 c.self.view_is _ (c.replace-candidates.ensures.after ∙ c.in_ok-unmarked.ensures)) in
    let w = searched (with_lists (record { rows = c.self.inside.rows; witnesses = c.self.inside.witnesses; candidates = c.self.inside.candidates }) c.replace-candidates.new.dest) _ book c.next-next.result c.start-self-inside.result c.first_unfinished-self-inside.new.cursor c.first_unfinished-self-inside.result c.next-next.ensures.value (past-both _ c.start-self-inside.result c.start-self-inside.ensures.unfinished c.start-self-inside.ensures.drawable) c.first_unfinished-self-inside.ensures.past c.first_unfinished-self-inside.ensures.found in
    (book, c.self.invariant.1, w.past, w.first)

pub returns-clause-known : goal.returns-clause-known
returns-clause-known c = told_true _ _ _ c.self.invariant.0 c.self.view_is (record { candidates = c.replace-candidates.result; next = c.next-next.result; live = c.live_len.result }) c.replace-candidates.ensures.value c.next-next.ensures.value c.live_len.ensures.value

pub returns-clause-sound : goal.returns-clause-sound
returns-clause-sound c = (IsBook-refreshed _ _ _ c.self.invariant.0 c.self.view_is _ (c.replace-candidates.ensures.after ∙ c.in_ok-unmarked.ensures)).sound
