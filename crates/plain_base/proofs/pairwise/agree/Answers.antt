use Rattle.std.proofs.Common.{◌≡◌, ◌∙◌, ℕ, sym, ap, ap₂}
use Rattle.col_set.specs.ColSet.{with}
use Rattle.rel_base.specs.Cells.{cell}
use Rattle.rel_base.specs.Agreement.{agrees}
use Rattle.plain_base.proofs.Pairs.{agree_none, agree_more, agree_same}
use Rattle.plain_base.proofs.pairwise.agree.Goals as goal
use Rattle.plain_base.proofs.pairwise.agree.Goals.{then-cells_agree, else-cells_agree}

pub loop-column-init : goal.loop-column-init
loop-column-init c = c.empty-set.ensures ∙ agree_none c.args.nulls c.args.one.now c.args.other.now

pub loop-column-preserved : goal.loop-column-preserved
loop-column-preserved c =
    let cells : agrees c.args.nulls c.cell.result.now c.cell-in-loop-column.result.now ≡ agrees c.args.nulls (cell c.args.one.now c.loop-column.column) (cell c.args.other.now c.loop-column.column)
    = ap₂ (agrees c.args.nulls) c.cell.ensures c.cell-in-loop-column.ensures in
    elim c.if-cells_agree.branch [
      | then-cells_agree w ↦
          w.set-is ∙ w.with-set.ensures ∙ ap (λ (x : ℕ). with x c.loop-column.column) c.loop-column.invariant
          ∙ agree_more c.args.nulls c.loop-column.column c.args.one.now c.args.other.now (sym (w.if-cells_agree.ensures ∙ cells))
      | else-cells_agree w ↦
          w.set-is ∙ c.loop-column.invariant ∙ agree_same c.args.nulls c.loop-column.column c.args.one.now c.args.other.now (sym (w.if-cells_agree.ensures ∙ cells))
    ]
