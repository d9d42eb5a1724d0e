use Rattle.std.proofs.Common.{◌<◌, ◌^◌, refl, length}
use Rattle.lossless_join.proofs.Plain.{All-next, All-whole}
use Rattle.lossless_join.proofs.tests.plain.are_wide.Goals as goal

pub loop-row-preserved : goal.loop-row-preserved
loop-row-preserved c = All-next (λ row. c.args.columns < 2 ^ length row) c.args.rows.now c.loop-row.row-index c.row-item.result c.loop-row-test.true c.row-item.is c.loop-row.invariant (c.if-not-is_wide.ensures refl)

pub returns : goal.returns
returns c e = All-whole (λ row. c.args.columns < 2 ^ length row) c.args.rows.now c.loop-row.row-index c.loop-row-test.false c.loop-row.invariant
