use Rattle.std.proofs.Common.{subst}
use Rattle.rel_base.specs.RowState.{IsRowState}
use Rattle.row_log.proofs.Log.{IsRowState-kept}
use Rattle.row_log.proofs.row_log.RowLog.names.Goals as goal

pub returns-clause-state : goal.returns-clause-state
returns-clause-state c = let v = c.self.inside in subst IsRowState c.self.view_is (IsRowState-kept v.names v.nulls v.limit v.columns.items v.live.items v.live_len c.self.invariant)
