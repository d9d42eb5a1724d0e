use Rattle.std.proofs.Common.{arith, ap, length, drop}
use Rattle.std.proofs.lemmas.List.{length-take, length-drop}
use Rattle.rel_base.specs.PackedOps.{cells_of}
use Rattle.rel_base.proofs.PackedOps.{cells-now}
use Rattle.rel_base.proofs.batch.Batch.row_len.Goals as goal

pub returns : goal.returns
returns c =
    let b = c.self.inside in
    let e = ap length (cells-now b.steps.items b.numbers.items b.cells c.self.invariant c.args.self.now c.self.view_is) in
    let l = length-take c.args.row.width (drop c.args.row.first (cells_of c.args.self.now)) in
    let d = length-drop c.args.row.first (cells_of c.args.self.now) in
    let x = c.len.ensures in let y = c.saturating_sub.ensures in let z = c.min.ensures in omega arith
