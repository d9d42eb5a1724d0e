use Rattle.std.proofs.Common.{◌∙◌, ap, length}
use Rattle.rel_base.proofs.PackedOps.{len-now, numbers-now, cells-now, IsCursor-end}
use Rattle.rel_base.proofs.batch.Batch.end.Goals as goal

pub returns-clause-cursor : goal.returns-clause-cursor
returns-clause-cursor c =
    let b = c.self.inside in
    IsCursor-end c.args.self.now c.len.result c.len-2.result c.len-3.result (c.len.ensures ∙ b.steps.ok.0 ∙ len-now b.steps.items b.numbers.items b.cells c.self.invariant c.args.self.now c.self.view_is)
    (c.len-2.ensures ∙ b.numbers.ok.0 ∙ ap length (numbers-now b.steps.items b.numbers.items b.cells c.self.invariant c.args.self.now c.self.view_is))
    (c.len-3.ensures ∙ ap length (cells-now b.steps.items b.numbers.items b.cells c.self.invariant c.args.self.now c.self.view_is))

pub returns-clause-place : goal.returns-clause-place
returns-clause-place c =
    let b = c.self.inside in
    c.len.ensures ∙ b.steps.ok.0 ∙ len-now b.steps.items b.numbers.items b.cells c.self.invariant c.args.self.now c.self.view_is
