use Rattle.std.proofs.Common.{ℕ, subst}
use Rattle.cover_steps.specs.Evidences.{IsAllTold}
use Rattle.cover_core.proofs.Complete.{all_evidence, all_told}
use Rattle.cover_core.proofs.book.Book.compare_all.Goals as goal

pub book_all-requires-clause-found : goal.book_all-requires-clause-found
book_all-requires-clause-found g c = all_evidence _ c.args.self.now c.self.inside.snapshot.value c.deref.result.now c.of.result c.self.invariant.0 c.self.view_is c.deref.ensures c.in_ok-found.found.items c.in_ok-found.ensures

pub mark_all-requires : goal.mark_all-requires
mark_all-requires g c = subst (λ (n : ℕ). IsAllTold c.book_all.new.self n) c.of.ensures (all_told _ c.args.self.now c.book_all.new.self c.self.inside.snapshot.value c.deref.result.now c.of.result c.self.invariant.0 c.self.view_is c.deref.ensures c.in_ok-book_all.ensures.rows c.in_ok-found.found.items c.in_ok-found.ensures c.in_ok-book_all.ensures.told)
