use Rattle.std.proofs.Common.{take}
use Rattle.rel_base.specs.PackedOps.{place_of, IsCursor}
use Rattle.rel_base.specs.RowState.{RowState}
use Rattle.row_log.specs.Applying.{LeadsFrom}
use Rattle.row_log.proofs.row_log.RowLog.take_back.Given as goal

abbrev pub invariant-loop-cursor : goal.invariant-loop-cursor
invariant-loop-cursor l = record {
  is : IsCursor l.batch l.cursor;
  led : (r : RowState) → LeadsFrom (take (place_of l.fn.end) l.fn.batch) l.fn.self r → LeadsFrom (take (place_of l.cursor) l.batch) l.self r;
}

abbrev pub decreases-loop-cursor : goal.decreases-loop-cursor
decreases-loop-cursor l = place_of l.cursor
