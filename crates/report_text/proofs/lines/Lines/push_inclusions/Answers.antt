use Rattle.std.proofs.Common.{arith}
use Rattle.report_text.proofs.Marks.{within-marks}
use Rattle.report_text.proofs.lines.Lines.push_inclusions.Goals as goal

pub cell-requires : goal.cell-requires
cell-requires c =
    let within = within-marks c.args.widths.now c.args.pairs.now _ c.loop-dependent.dependent-index c.in-Ok.ensures c.requires c.loop-dependent-test.true in
    omega (arith, within.0, within.1)

pub cell-requires-in-loop-dependent : goal.cell-requires-in-loop-dependent
cell-requires-in-loop-dependent c =
    let within = within-marks c.args.widths.now c.args.pairs.now _ c.loop-dependent.dependent-index c.in-Ok.ensures c.requires c.loop-dependent-test.true in
    omega (arith, within.0, within.1)
