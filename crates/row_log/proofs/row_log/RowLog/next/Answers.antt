use Rattle.std.proofs.Common.{◌+◌, ◌∙◌, ℕ, ap, sym, subst}
use Rattle.rel_base.specs.RowState.{IsRowState, next}
use Rattle.row_log.proofs.Log.{next-kept, IsRowState-kept}
use Rattle.row_log.proofs.row_log.RowLog.next.Goals as goal

pub returns-clause-value : goal.returns-clause-value
returns-clause-value c =
    let v = c.self.inside in
    c.of.ensures ∙ ap (λ (n : ℕ). n + 1) (c.len.ensures ∙ v.live.ok.0) ∙ sym (next-kept v.names v.nulls v.limit v.columns.items v.live.items v.live_len c.self.invariant) ∙ ap next c.self.view_is

pub returns-clause-state : goal.returns-clause-state
returns-clause-state c = let v = c.self.inside in subst IsRowState c.self.view_is (IsRowState-kept v.names v.nulls v.limit v.columns.items v.live.items v.live_len c.self.invariant)
