use Rattle.std.proofs.Common.{ap}
use Rattle.rel_base.specs.Batches.{deleted}
use Rattle.rel_base.specs.PackedOps.{row_at, op_at}
use Rattle.row_log.proofs.Batch.{to_pop, to_pop_inserted, to_revive}
use Rattle.row_log.proofs.row_log.RowLog.take_back_one.Goals as goal

pub pop-requires-in-Update : goal.pop-requires-in-Update
pop-requires-in-Update c =
    let cells = c.requires.0 in
    (deleted c.requires.1 c.in-Update.number, to_pop (op_at cells c.args.change) c.requires.1 c.args.self.now c.in-Update.number (row_at cells c.in-Update.field-1) (ap (op_at cells) c.in-Update.is) c.requires.2)

pub revive-requires-in-Update : goal.revive-requires-in-Update
revive-requires-in-Update c =
    let cells = c.requires.0 in
    (c.requires.1, to_revive (op_at cells c.args.change) c.requires.1 c.args.self.now c.pop-in-Update.new.self c.in-Update.number (row_at cells c.in-Update.field-1) (ap (op_at cells) c.in-Update.is) c.requires.2 c.pop-in-Update.ensures)

pub returns-in-Update : goal.returns-in-Update
returns-in-Update c cells r f =
    c.revive-in-Update.ensures r (to_revive (op_at cells c.args.change) r c.args.self.now c.pop-in-Update.new.self c.in-Update.number (row_at cells c.in-Update.field-1) (ap (op_at cells) c.in-Update.is) f c.pop-in-Update.ensures)

pub returns-in-Insert : goal.returns-in-Insert
returns-in-Insert c cells r f = c.pop.ensures r (to_pop_inserted (op_at cells c.args.change) r c.args.self.now (row_at cells c.in-Insert.field-0) (ap (op_at cells) c.in-Insert.is) f)
