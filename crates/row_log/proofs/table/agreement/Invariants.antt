use Rattle.std.proofs.Common.{◌≡◌, length}
use Rattle.row_log.proofs.Rows.{AgreeBelow}
use Rattle.row_log.proofs.table.agreement.Given as goal

abbrev pub invariant-loop-place : goal.invariant-loop-place
invariant-loop-place l = (length l.first ≡ 128) × (length l.second ≡ 128) × AgreeBelow l.columns l.fn.nulls l.i l.j l.place l.first l.second
