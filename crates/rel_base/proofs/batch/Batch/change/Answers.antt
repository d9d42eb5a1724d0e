use Rattle.std.proofs.Common.{◌∙◌, length, arith, ap, sym}
use Rattle.rel_base.proofs.PackedOps.{step-at, steps-now, numbers-now, len-now, numbers-fit, inserts, deletes, updates}
use Rattle.rel_base.proofs.batch.Batch.change.Goals as goal

pub index-requires : goal.index-requires
index-requires c =
    let b = c.self.inside in
    let e = len-now b.steps.items b.numbers.items b.cells c.self.invariant c.args.self.now c.self.view_is in
    let o = b.steps.ok.0 in let l = c.requires.within in omega arith

pub index-requires-in-Delete : goal.index-requires-in-Delete
index-requires-in-Delete c =
    let b = c.self.inside in
    let s = step-at b.steps.items c.args.self.now c.args.cursor.op c.index.result.now (steps-now b.steps.items b.numbers.items b.cells c.self.invariant c.args.self.now c.self.view_is) c.requires.within c.index.ensures in
    let f = numbers-fit c.args.self.now c.args.cursor.op c.requires.within _ (sym c.in-Delete.is ∙ s) in
    let e = ap length (numbers-now b.steps.items b.numbers.items b.cells c.self.invariant c.args.self.now c.self.view_is) in
    let o = b.numbers.ok.0 in let n = c.requires.cursor.number in omega arith

pub index-requires-in-Update : goal.index-requires-in-Update
index-requires-in-Update c =
    let b = c.self.inside in
    let s = step-at b.steps.items c.args.self.now c.args.cursor.op c.index.result.now (steps-now b.steps.items b.numbers.items b.cells c.self.invariant c.args.self.now c.self.view_is) c.requires.within c.index.ensures in
    let f = numbers-fit c.args.self.now c.args.cursor.op c.requires.within _ (sym c.in-Update.is ∙ s) in
    let e = ap length (numbers-now b.steps.items b.numbers.items b.cells c.self.invariant c.args.self.now c.self.view_is) in
    let o = b.numbers.ok.0 in let n = c.requires.cursor.number in omega arith

pub returns-in-Insert : goal.returns-in-Insert
returns-in-Insert c d =
    let b = c.self.inside in
    let s = step-at b.steps.items c.args.self.now c.args.cursor.op c.index.result.now (steps-now b.steps.items b.numbers.items b.cells c.self.invariant c.args.self.now c.self.view_is) c.requires.within c.index.ensures in
    inserts c.args.self.now c.args.cursor c.requires.cursor c.requires.within d c.in-Insert.width (sym c.in-Insert.is ∙ s)

pub returns-in-Delete : goal.returns-in-Delete
returns-in-Delete c d =
    let b = c.self.inside in
    let s = step-at b.steps.items c.args.self.now c.args.cursor.op c.index.result.now (steps-now b.steps.items b.numbers.items b.cells c.self.invariant c.args.self.now c.self.view_is) c.requires.within c.index.ensures in
    deletes c.args.self.now c.args.cursor c.requires.cursor c.requires.within d b.numbers.items c.index-in-Delete.result.now (sym c.in-Delete.is ∙ s)
    (numbers-now b.steps.items b.numbers.items b.cells c.self.invariant c.args.self.now c.self.view_is) c.index-in-Delete.ensures

pub returns-in-Update : goal.returns-in-Update
returns-in-Update c d =
    let b = c.self.inside in
    let s = step-at b.steps.items c.args.self.now c.args.cursor.op c.index.result.now (steps-now b.steps.items b.numbers.items b.cells c.self.invariant c.args.self.now c.self.view_is) c.requires.within c.index.ensures in
    updates c.args.self.now c.args.cursor c.requires.cursor c.requires.within d b.numbers.items c.index-in-Update.result.now c.in-Update.width (sym c.in-Update.is ∙ s)
    (numbers-now b.steps.items b.numbers.items b.cells c.self.invariant c.args.self.now c.self.view_is) c.index-in-Update.ensures
