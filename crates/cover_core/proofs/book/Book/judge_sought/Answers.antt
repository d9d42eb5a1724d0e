use Rattle.std.proofs.Common.{◌≡◌, ◌∙◌, ℕ, List, sym, ap, subst}
use Rattle.std.specs.List.{All}
use Rattle.rel_base.specs.CodeTable.{CodeTable}
use Rattle.rel_base.specs.RowState.{width}
use Rattle.cover_steps.specs.Core.{Core}
use Rattle.cover_core.specs.Judged.{IsAsked}
use Rattle.cover_core.specs.Waiting.{IsSought}
use Rattle.cover_core.specs.declared.waiting.Waiting.{Waiting}
use Rattle.cover_core.proofs.Passes.{sought-all}
use Rattle.cover_core.proofs.book.Book.judge_sought.Goals as goal

pub judged_by_parts-requires-clause-asked : goal.judged_by_parts-requires-clause-asked
judged_by_parts-requires-clause-asked g c =
    let n : c.args.draft.now.width ≡ width c.self.inside.rows = c.requires.width ∙ ap (λ (m : Core). width m.rows) (sym c.self.view_is) in
    subst (λ (table : CodeTable). All (IsAsked c.self.inside.rows table) c.as_slice-asked.result.now) (sym c.in_ok-snapshot.ensures.cases)
    (sought-all (record { rows = c.self.inside.rows; witnesses = c.self.inside.witnesses; candidates = c.self.inside.candidates }) c.self.inside.snapshot.value c.self.invariant.0 c.as_slice-asked.result.now
    (subst (λ (ws : List Waiting). All (IsSought (width c.self.inside.rows)) ws) (sym c.as_slice-asked.ensures.value)
    (subst (λ (m : ℕ). All (IsSought m) c.in_ok-list.list.items) n c.in_ok-list.ensures)))
