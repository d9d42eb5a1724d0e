use Rattle.std.proofs.Common.{◌∙◌, length}
use Rattle.csv.specs.Records.{fields_of, partial_of}
use Rattle.col_set.specs.Subsets.{has_within}
use Rattle.rel_base.specs.Cells.{cell}
use Rattle.rel_base.specs.Projection.{part}
use Rattle.lossless_join.proofs.Filling.{filling_column, filling_smaller, filling_more, filling_end}
use Rattle.lossless_join.proofs.parts.part_of.Goals as goal

pub cell-requires : goal.cell-requires
cell-requires c = has_within c.args.columns (length c.args.row.now) c.in-Some.column c.requires (filling_column (cell c.args.row.now) c.args.columns c.loop-column.left (fields_of c.loop-column.record) (partial_of c.loop-column.record) c.loop-column.invariant c.in-Some.column c.in-Some.ensures.value)

pub loop-column-smaller : goal.loop-column-smaller
loop-column-smaller c = filling_smaller (cell c.args.row.now) c.args.columns c.loop-column.left (fields_of c.loop-column.record) (partial_of c.loop-column.record) c.loop-column.invariant c.in-Some.column c.without-left.result c.in-Some.ensures.value c.without-left.ensures

pub loop-column-preserved : goal.loop-column-preserved
loop-column-preserved c = filling_more (cell c.args.row.now) c.args.columns c.loop-column.left (fields_of c.loop-column.record) (partial_of c.loop-column.record) c.loop-column.invariant c.in-Some.column c.without-left.result c.cell.result.now (fields_of c.push_field.new.self) (partial_of c.push_field.new.self)
    c.in-Some.ensures.value c.without-left.ensures c.cell.ensures c.in_ok-push_field.ensures.fields c.in_ok-push_field.ensures.partial

pub returns : goal.returns
unfolding part
returns c = c.of.ensures ∙ filling_end (cell c.args.row.now) c.args.columns c.loop-column.left (fields_of c.loop-column.record) (partial_of c.loop-column.record) c.loop-column.invariant c.in_default.ensures.value
