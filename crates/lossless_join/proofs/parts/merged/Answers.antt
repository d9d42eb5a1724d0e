use Rattle.std.proofs.Common.{◌∙◌, sym, ap, arith, cond}
use Rattle.csv.specs.Records.{fields_of, partial_of}
use Rattle.rel_base.specs.Cells.{cell}
use Rattle.lossless_join.specs.Parts.{part_cell}
use Rattle.lossless_join.specs.Joining.{merged_cell, merged}
use Rattle.lossless_join.proofs.Filling.{laid_more, laid_end}
use Rattle.lossless_join.proofs.parts.merged.Goals as goal
use Rattle.lossless_join.proofs.parts.merged.Goals.{then-has+in_ok-push_field, else-has+in_ok-push_field-2}

pub loop-column-preserved : goal.loop-column-preserved
loop-column-preserved c = elim c.if-has.branch [
  | then-has+in_ok-push_field w ↦ laid_more (merged_cell c.args.columns c.args.row.now c.args.part.now) c.loop-column.column (fields_of c.loop-column.record) (partial_of c.loop-column.record) c.loop-column.invariant
      w.cell_in.result.now (fields_of c.if-has.record) (partial_of c.if-has.record)
      (w.cell_in.ensures ∙ sym (ap (λ b. cond b (part_cell c.args.columns c.args.part.now c.loop-column.column) (cell c.args.row.now c.loop-column.column)) (sym c.has.ensures ∙ w.if-has.true)))
      (ap fields_of w.record-is ∙ w.in_ok-push_field.ensures.fields) (ap partial_of w.record-is ∙ w.in_ok-push_field.ensures.partial)
  | else-has+in_ok-push_field-2 w ↦ laid_more (merged_cell c.args.columns c.args.row.now c.args.part.now) c.loop-column.column (fields_of c.loop-column.record) (partial_of c.loop-column.record) c.loop-column.invariant
      w.cell.result.now (fields_of c.if-has.record) (partial_of c.if-has.record)
      (w.cell.ensures ∙ sym (ap (λ b. cond b (part_cell c.args.columns c.args.part.now c.loop-column.column) (cell c.args.row.now c.loop-column.column)) (sym c.has.ensures ∙ w.if-has.false)))
      (ap fields_of w.record-is ∙ w.in_ok-push_field-2.ensures.fields) (ap partial_of w.record-is ∙ w.in_ok-push_field-2.ensures.partial)
]

pub returns : goal.returns
unfolding merged
returns c = c.of.ensures ∙ laid_end (merged_cell c.args.columns c.args.row.now c.args.part.now) c.loop-column.column c.args.width (fields_of c.loop-column.record) (partial_of c.loop-column.record) c.loop-column.invariant
    (let l = c.loop-column-test.false in let m = c.loop-column.auto.column-end in omega arith)
