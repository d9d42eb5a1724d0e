use Rattle.std.proofs.Common.{◌∙◌, ◌+◌, [], List, arith, ap, length, get_or}
use Rattle.rel_base.specs.Cells.{Cell}
use Rattle.rel_base.proofs.PackedOps.{cells-now, row-within, row-cell}
use Rattle.rel_base.proofs.batch.Batch.cell.Goals as goal

pub overflow_add-row : goal.overflow_add-row
overflow_add-row c =
    let b = c.self.inside in
    let few = c.self.invariant.few_cells in
    let e = ap length (cells-now b.steps.items b.numbers.items b.cells c.self.invariant c.args.self.now c.self.view_is) in
    let l = row-within _ c.args.row.first c.args.row.width c.args.column c.requires in omega arith

pub get-requires : goal.get-requires
get-requires c =
    let b = c.self.inside in
    let e = ap length (cells-now b.steps.items b.numbers.items b.cells c.self.invariant c.args.self.now c.self.view_is) in
    let l = row-within _ c.args.row.first c.args.row.width c.args.column c.requires in omega arith

pub returns : goal.returns
returns c =
    let b = c.self.inside in
    c.get.ensures ∙ ap (λ (cells : List Cell). get_or cells (c.args.row.first + c.args.column) []) (cells-now b.steps.items b.numbers.items b.cells c.self.invariant c.args.self.now c.self.view_is)
    ∙ row-cell _ c.args.row.first c.args.row.width c.args.column [] c.requires
