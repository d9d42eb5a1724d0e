use Rattle.std.proofs.Common.{◌<◌, sym, ◌∙◌, arith}
use Rattle.rel_base.proofs.Equal.{same_row-cell, same_row-each, cells-differ}
use Rattle.rel_base.proofs.row.has_same_cells.Goals as goal

pub returns-then-ne : goal.returns-then-ne
returns-then-ne c = same_row-cell c.args.one.now c.args.other.now c.loop-place.place c.cell.result.now c.cell-in-loop-place.result.now c.cell.ensures c.cell-in-loop-place.ensures (cells-differ _ _ (sym c.if-ne.true ∙ c.ne.ensures))

pub returns : goal.returns
returns c = same_row-each c.args.one.now c.args.other.now c.loop-place.invariant.0 (λ k l. c.loop-place.invariant.1 k (let e : k < c.loop-place.place = omega arith in e))
