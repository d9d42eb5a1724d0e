use Rattle.std.proofs.Common.{◌∙◌, ap, sym, subst, length, List, []}
use Rattle.rel_base.specs.CodeTable.{CodeTable, IsCodeTable}
use Rattle.negative_cover.specs.declared.negative_cover.Witness.{Witness}
use Rattle.cover_steps.specs.Core.{one_each}
use Rattle.validator.specs.Stores.{AreOf}
use Rattle.validator.specs.declared.stores.Stores.{Stores}
use Rattle.cover_core.specs.Kept.{IsBook}
use Rattle.cover_core.specs.declared.searcher.Searcher.{Searcher}
use Rattle.cover_core.proofs.Calls.{IsBook-opened}
use Rattle.cover_core.proofs.Cursors.{past-both, to_search, searched}
use Rattle.cover_core.proofs.book.Book.of_rows.Goals as goal

pub first_unfinished-first-requires : goal.first_unfinished-first-requires
first_unfinished-first-requires c = to_search (record { rows = c.args.rows; witnesses = []; candidates = c.in_ok-candidates.candidates }) c.next.result c.start-cursors.result c.next.ensures.value (past-both _ c.start-cursors.result c.start-cursors.ensures.unfinished c.start-cursors.ensures.drawable)

pub invariant_of-result : goal.invariant_of-result
invariant_of-result c =
    let kept = subst (λ (ws : List Witness). IsBook (record { rows = c.args.rows; witnesses = ws; candidates = c.in_ok-candidates.candidates }) c.args.snapshot.value) (sym c.new-3.ensures) (IsBook-opened c.args.rows c.in_ok-candidates.candidates c.args.snapshot.value c.names-names.ensures.state (subst IsCodeTable c.deref.ensures c.columns.ensures.bounds) c.requires.shows (c.in_ok-candidates.ensures ∙ ap one_each (c.columns.ensures.value ∙ ap (λ (t : CodeTable). length t.codes) c.deref.ensures))) in
    let w = searched (record { rows = c.args.rows; witnesses = c.new-3.result; candidates = c.in_ok-candidates.candidates }) _ kept c.next.result c.start-cursors.result c.first_unfinished-first.new.cursor c.first_unfinished-first.result c.next.ensures.value (past-both (record { rows = c.args.rows; witnesses = c.new-3.result; candidates = c.in_ok-candidates.candidates }) c.start-cursors.result c.start-cursors.ensures.unfinished c.start-cursors.ensures.drawable) c.first_unfinished-first.ensures.past c.first_unfinished-first.ensures.found in
    (kept, subst (λ (stores : Stores). AreOf c.args.snapshot.value stores) (sym (ap (λ (s : Searcher). s.stores) c.in_ok-searcher.ensures.ok)) c.requires.same, w.past, w.first)
