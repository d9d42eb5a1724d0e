use Rattle.std.proofs.Common.{ap, arith, subst}
use Rattle.rel_base.specs.RowState.{IsRowState, next}
use Rattle.row_log.proofs.Log.{next-kept, IsRowState-kept}
use Rattle.row_log.proofs.Changing.{live-few}
use Rattle.row_log.proofs.row_log.RowLog.live_len.Goals as goal

pub returns-clause-few : goal.returns-clause-few
returns-clause-few c =
    let v = c.self.inside in
    let l = live-few v.names v.nulls v.limit v.columns.items v.live.items v.live_len c.self.invariant in
    let n = next-kept v.names v.nulls v.limit v.columns.items v.live.items v.live_len c.self.invariant in
    let e = ap next c.self.view_is in
    omega arith

pub returns-clause-state : goal.returns-clause-state
returns-clause-state c = let v = c.self.inside in subst IsRowState c.self.view_is (IsRowState-kept v.names v.nulls v.limit v.columns.items v.live.items v.live_len c.self.invariant)
