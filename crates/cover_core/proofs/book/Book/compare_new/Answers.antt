use Rattle.std.proofs.Common.{◌∙◌, List, sym, subst}
use Rattle.std.specs.List.{All}
use Rattle.rel_base.specs.RowState.{RowState}
use Rattle.cover_core.specs.KnownLefts.{AreTrueLefts}
use Rattle.cover_core.specs.Work.{Extends}
use Rattle.cover_core.specs.declared.known_lefts.KnownLefts.{KnownLefts}
use Rattle.cover_core.proofs.Complete.{all_evidence, all_told}
use Rattle.cover_core.proofs.KnownLefts.{known_hold, told_same}
use Rattle.cover_core.proofs.book.Book.compare_new.Goals as goal

pub book_all-requires-clause-found : goal.book_all-requires-clause-found
book_all-requires-clause-found g c = all_evidence _ c.args.self.now c.self.inside.snapshot.value c.deref.result.now c.in-Some.from c.self.invariant.0 c.self.view_is c.deref.ensures c.in_ok-found.found.items c.in_ok-found.ensures

pub loop-lefts-init : goal.loop-lefts-init
loop-lefts-init g c = (
  c.in_ok-book_all.ensures.rows,
  c.in_ok-book_all.ensures.witnesses,
  c.in_ok-book_all.ensures.sound,
  all_told _ c.args.self.now c.book_all.new.self c.self.inside.snapshot.value c.deref.result.now c.in-Some.from c.self.invariant.0 c.self.view_is c.deref.ensures c.in_ok-book_all.ensures.rows c.in_ok-found.found.items c.in_ok-found.ensures c.in_ok-book_all.ensures.told,
  subst (λ (ks : List KnownLefts). All (AreTrueLefts c.book_all.new.self.rows c.in-Some.from) ks) (sym c.as_slice-lefts-items.ensures.value)
      (subst (λ (r : RowState). All (AreTrueLefts r c.in-Some.from) c.in_ok-known.known.items) (sym c.in_ok-book_all.ensures.rows)
      (known_hold _ c.args.self.now c.self.inside.snapshot.value c.in-Some.from c.self.invariant.0 c.self.view_is c.in_ok-known.known.items c.in_ok-known.ensures)),
)

pub loop-lefts-preserved : goal.loop-lefts-preserved
loop-lefts-preserved g c = (
  c.mark_known.ensures.rows ∙ c.loop-lefts.invariant.0,
  subst (Extends c.args.self.now.witnesses) (sym c.mark_known.ensures.witnesses) c.loop-lefts.invariant.1,
  c.mark_known.ensures.sound,
  told_same c.loop-lefts.self c.mark_known.new.self c.in-Some.from c.mark_known.ensures.rows c.mark_known.ensures.witnesses c.loop-lefts.invariant.3,
  subst (λ (r : RowState). All (AreTrueLefts r c.in-Some.from) c.as_slice-lefts-items.result.now) (sym c.mark_known.ensures.rows) c.loop-lefts.invariant.4,
)
