use Rattle.std.proofs.Common.{sym, refl}
use Rattle.rel_base.specs.PackedOps.{cells_of, row_at}
use Rattle.row_log.proofs.Batch.{updated}
use Rattle.row_log.proofs.row_log.RowLog.update.Goals as goal

pub returns : goal.returns
returns c =
    updated c.args.self.now c.insert.new.self c.end.new.self c.args.number (row_at (cells_of c.args.batch.now) c.args.row) (c.if-not-is_live.ensures.given refl) (sym c.if-not-is_live.ensures.value) c.in_ok-insert.ensures c.end.ensures
