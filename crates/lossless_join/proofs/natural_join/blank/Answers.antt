use Rattle.std.proofs.Common.{◌∙◌, arith, refl, []}
use Rattle.csv.specs.Records.{fields_of, partial_of}
use Rattle.lossless_join.proofs.Filling.{null_at, laid_more, laid_end, nulls-upto}
use Rattle.lossless_join.proofs.natural_join.blank.Goals as goal

pub loop-column-preserved : goal.loop-column-preserved
loop-column-preserved c = laid_more null_at c.loop-column._column (fields_of c.loop-column.record) (partial_of c.loop-column.record) c.loop-column.invariant
    [] (fields_of c.push_field.new.self) (partial_of c.push_field.new.self) refl c.in_ok-push_field.ensures.fields c.in_ok-push_field.ensures.partial

pub returns : goal.returns
returns c = c.of.ensures ∙ laid_end null_at c.loop-column._column c.args.width (fields_of c.loop-column.record) (partial_of c.loop-column.record) c.loop-column.invariant
    (let l = c.loop-column-test.false in let m = c.loop-column.auto._column-end in omega arith) ∙ nulls-upto c.args.width
