use Rattle.std.proofs.Common.{◌∙◌, ◌++◌, List, ap}
use Rattle.negative_cover.specs.declared.negative_cover.Witness.{Witness}
use Rattle.cover_steps.specs.Core.{Core}
use Rattle.cover_core.proofs.Passes.{Extends-same, IsBook-all, news-inside}
use Rattle.cover_core.proofs.Cursors.{past-both, to_search, searched}
use Rattle.cover_core.proofs.book.Book.book.Goals as goal

pub returns-in_err-add_all-clause-witnesses : goal.returns-in_err-add_all-clause-witnesses
returns-in_err-add_all-clause-witnesses g c = Extends-same _ _ (c.in_err-add_all.ensures.refused ∙ ap (λ (m : Core). m.witnesses) c.self.view_is)

pub first_unfinished-self-inside-requires : goal.first_unfinished-self-inside-requires
first_unfinished-self-inside-requires g c = to_search (record { rows = c.self.inside.rows; witnesses = c.add_all.new.self; candidates = c.put_all.new.candidates }) c.next-next.result c.start-self-inside.result c.next-next.ensures.value (past-both _ c.start-self-inside.result c.start-self-inside.ensures.unfinished c.start-self-inside.ensures.drawable)

pub invariant_of-self-2 : goal.invariant_of-self-2
invariant_of-self-2 g c =
    let kept = IsBook-all _ _ c.self.invariant.0 c.args.news.witnesses.items c.args.news.draft (news-inside _ c.args.self.now _ c.self.invariant.0 c.self.view_is c.args.news.witnesses.items c.args.news.draft c.requires.news) c.put_all.new.candidates (c.put_all.ensures _ c.in_ok-new_lists.ensures) c.add_all.new.self (c.in_ok-add_all.ensures.ok ∙ ap (λ (ws : List Witness). c.self.inside.witnesses ++ ws) c.as_slice.ensures.value) in
    let w = searched (record { rows = c.self.inside.rows; witnesses = c.add_all.new.self; candidates = c.put_all.new.candidates }) _ kept c.next-next.result c.start-self-inside.result c.first_unfinished-self-inside.new.cursor c.first_unfinished-self-inside.result c.next-next.ensures.value (past-both _ c.start-self-inside.result c.start-self-inside.ensures.unfinished c.start-self-inside.ensures.drawable) c.first_unfinished-self-inside.ensures.past c.first_unfinished-self-inside.ensures.found in
    (kept, c.self.invariant.1, w.past, w.first)

pub returns-clause-sound : goal.returns-clause-sound
returns-clause-sound g c = (IsBook-all _ _ c.self.invariant.0 c.args.news.witnesses.items c.args.news.draft (news-inside _ c.args.self.now _ c.self.invariant.0 c.self.view_is c.args.news.witnesses.items c.args.news.draft c.requires.news) c.put_all.new.candidates (c.put_all.ensures _ c.in_ok-new_lists.ensures) c.add_all.new.self (c.in_ok-add_all.ensures.ok ∙ ap (λ (ws : List Witness). c.self.inside.witnesses ++ ws) c.as_slice.ensures.value)).sound
