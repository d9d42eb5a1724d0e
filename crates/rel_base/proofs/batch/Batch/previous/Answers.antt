use Rattle.std.proofs.Common.{◌-◌, arith}
use Rattle.rel_base.proofs.PackedOps.{step-at, steps-now, len-now, before-are, IsCursor-previous}
use Rattle.rel_base.proofs.batch.Batch.previous.Goals as goal

pub index-step-requires : goal.index-step-requires
index-step-requires c =
    let b = c.self.inside in
    let e = len-now b.steps.items b.numbers.items b.cells c.self.invariant c.args.self.now c.self.view_is in
    let o = b.steps.ok.0 in let l = c.requires.within in let w = c.requires.cursor.within in omega arith

pub overflow_sub-result : goal.overflow_sub-result
overflow_sub-result c =
    let b = c.self.inside in
    let l = c.requires.within in let w = c.requires.cursor.within in
    let s = step-at b.steps.items c.args.self.now (c.args.cursor.op - 1) c.index-step.result.now (steps-now b.steps.items b.numbers.items b.cells c.self.invariant c.args.self.now c.self.view_is) (omega arith) c.index-step.ensures in
    let p = before-are c.args.self.now c.args.cursor c.index-step.result.now c.requires.cursor c.requires.within s in
    let x = p.0 in let r = c.numbers.ensures in omega arith

pub overflow_sub-result-2 : goal.overflow_sub-result-2
overflow_sub-result-2 c =
    let b = c.self.inside in
    let l = c.requires.within in let w = c.requires.cursor.within in
    let s = step-at b.steps.items c.args.self.now (c.args.cursor.op - 1) c.index-step.result.now (steps-now b.steps.items b.numbers.items b.cells c.self.invariant c.args.self.now c.self.view_is) (omega arith) c.index-step.ensures in
    let p = before-are c.args.self.now c.args.cursor c.index-step.result.now c.requires.cursor c.requires.within s in
    let x = p.1 in let r = c.cells.ensures in omega arith

pub returns-clause-cursor : goal.returns-clause-cursor
returns-clause-cursor c =
    let b = c.self.inside in
    let l = c.requires.within in let w = c.requires.cursor.within in
    let s = step-at b.steps.items c.args.self.now (c.args.cursor.op - 1) c.index-step.result.now (steps-now b.steps.items b.numbers.items b.cells c.self.invariant c.args.self.now c.self.view_is) (omega arith) c.index-step.ensures in
    IsCursor-previous c.args.self.now c.args.cursor c.index-step.result.now c.numbers.result c.cells.result c.requires.cursor c.requires.within s c.numbers.ensures c.cells.ensures
