use Rattle.std.proofs.Common.{◌∙◌}
use Rattle.csv.specs.Records.{fields_of, partial_of}
use Rattle.lossless_join.specs.Parts.{part_cell}
use Rattle.lossless_join.specs.Joining.{part_within}
use Rattle.lossless_join.proofs.Filling.{filling_column, filling_smaller, filling_more, filling_end}
use Rattle.lossless_join.proofs.parts.part_within.Goals as goal

pub cell_in-requires-clause-column : goal.cell_in-requires-clause-column
cell_in-requires-clause-column c = c.requires.inside.each c.in-Some.column (filling_column (part_cell c.args.columns c.args.part.now) c.args.some c.loop-column.left (fields_of c.loop-column.record) (partial_of c.loop-column.record) c.loop-column.invariant c.in-Some.column c.in-Some.ensures.value)

pub loop-column-smaller : goal.loop-column-smaller
loop-column-smaller c = filling_smaller (part_cell c.args.columns c.args.part.now) c.args.some c.loop-column.left (fields_of c.loop-column.record) (partial_of c.loop-column.record) c.loop-column.invariant c.in-Some.column c.without-left.result c.in-Some.ensures.value c.without-left.ensures

pub loop-column-preserved : goal.loop-column-preserved
loop-column-preserved c = filling_more (part_cell c.args.columns c.args.part.now) c.args.some c.loop-column.left (fields_of c.loop-column.record) (partial_of c.loop-column.record) c.loop-column.invariant c.in-Some.column c.without-left.result c.cell_in.result.now (fields_of c.push_field.new.self) (partial_of c.push_field.new.self)
    c.in-Some.ensures.value c.without-left.ensures c.cell_in.ensures c.in_ok-push_field.ensures.fields c.in_ok-push_field.ensures.partial

pub returns : goal.returns
unfolding part_within
returns c = c.of.ensures ∙ filling_end (part_cell c.args.columns c.args.part.now) c.args.some c.loop-column.left (fields_of c.loop-column.record) (partial_of c.loop-column.record) c.loop-column.invariant c.in_default.ensures.value
