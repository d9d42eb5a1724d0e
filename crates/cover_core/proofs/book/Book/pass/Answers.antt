use Rattle.std.proofs.Common.{List, sym, subst}
use Rattle.std.specs.List.{All}
use Rattle.rel_base.specs.CodeTable.{CodeTable}
use Rattle.cover_core.specs.Waiting.{IsWaiting}
use Rattle.cover_core.specs.Judged.{IsAsked}
use Rattle.cover_core.specs.declared.waiting.Waiting.{Waiting}
use Rattle.cover_core.proofs.Passes.{asked-all}
use Rattle.cover_core.proofs.book.Book.pass.Goals as goal

pub judged_by_parts-requires-clause-asked : goal.judged_by_parts-requires-clause-asked
judged_by_parts-requires-clause-asked g c =
    subst (λ (table : CodeTable). All (IsAsked c.self.inside.rows table) c.as_slice-asked.result.now) (sym c.in_ok-snapshot.ensures.cases)
    (asked-all (record { rows = c.self.inside.rows; witnesses = c.self.inside.witnesses; candidates = c.self.inside.candidates }) c.self.inside.snapshot.value c.self.invariant.0 c.as_slice-asked.result.now
    (subst (λ (ws : List Waiting). All (IsWaiting c.self.inside.candidates) ws) (sym c.as_slice-asked.ensures.value) c.in_ok-list.ensures))
