use Rattle.std.proofs.Common.{length, arith, ap}
use Rattle.rel_base.proofs.PackedOps.{step-at, steps-now, numbers-now, cells-now, len-now, numbers-fit, cells-fit, IsCursor-next}
use Rattle.rel_base.proofs.batch.Batch.next.Goals as goal

pub index-step-requires : goal.index-step-requires
index-step-requires c =
    let b = c.self.inside in
    let e = len-now b.steps.items b.numbers.items b.cells c.self.invariant c.args.self.now c.self.view_is in
    let o = b.steps.ok.0 in let l = c.requires.within in omega arith

pub overflow_add-result : goal.overflow_add-result
overflow_add-result c =
    let b = c.self.inside in
    let e = len-now b.steps.items b.numbers.items b.cells c.self.invariant c.args.self.now c.self.view_is in
    let o = b.steps.ok.0 in let l = c.requires.within in omega arith

pub overflow_add-result-2 : goal.overflow_add-result-2
overflow_add-result-2 c =
    let b = c.self.inside in
    let s = step-at b.steps.items c.args.self.now c.args.cursor.op c.index-step.result.now (steps-now b.steps.items b.numbers.items b.cells c.self.invariant c.args.self.now c.self.view_is) c.requires.within c.index-step.ensures in
    let f = numbers-fit c.args.self.now c.args.cursor.op c.requires.within c.index-step.result.now s in
    let e = ap length (numbers-now b.steps.items b.numbers.items b.cells c.self.invariant c.args.self.now c.self.view_is) in
    let o = b.numbers.ok.0 in let n = c.requires.cursor.number in let r = c.numbers.ensures in omega arith

pub overflow_add-result-3 : goal.overflow_add-result-3
overflow_add-result-3 c =
    let b = c.self.inside in
    let s = step-at b.steps.items c.args.self.now c.args.cursor.op c.index-step.result.now (steps-now b.steps.items b.numbers.items b.cells c.self.invariant c.args.self.now c.self.view_is) c.requires.within c.index-step.ensures in
    let f = cells-fit c.args.self.now c.args.cursor.op c.requires.within c.index-step.result.now s in
    let e = ap length (cells-now b.steps.items b.numbers.items b.cells c.self.invariant c.args.self.now c.self.view_is) in
    let few = c.self.invariant.few_cells in let n = c.requires.cursor.cell in let r = c.cells.ensures in omega arith

pub returns-clause-cursor : goal.returns-clause-cursor
returns-clause-cursor c =
    let b = c.self.inside in
    let s = step-at b.steps.items c.args.self.now c.args.cursor.op c.index-step.result.now (steps-now b.steps.items b.numbers.items b.cells c.self.invariant c.args.self.now c.self.view_is) c.requires.within c.index-step.ensures in
    IsCursor-next c.args.self.now c.args.cursor c.index-step.result.now c.numbers.result c.cells.result c.requires.cursor c.requires.within s c.numbers.ensures c.cells.ensures
