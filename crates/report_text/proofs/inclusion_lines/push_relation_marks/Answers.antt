use Rattle.std.proofs.Common.{◌≡◌, ◌∙◌, ◌+◌, ◌++◌, ap, sym, append_assoc, arith}
use Rattle.std.proofs.lemmas.List.FromFn.{map-range_with_len_more}
use Rattle.csv.specs.Records.{fields_of}
use Rattle.report_text.specs.Field.{column_mark}
use Rattle.report_text.proofs.inclusion_lines.push_relation_marks.Goals as goal

pub loop-column-preserved : goal.loop-column-preserved
loop-column-preserved c =
    let mark = column_mark c.args.relation in
    let column = c.loop-column.column in
    let before = fields_of c.args.marks.now in
    let text : c.as_slice.result.now ≡ mark (column + 1) = c.as_slice.ensures.value ∙ c.in_ok-write_mark.ensures in
    let pushed = rw (c.loop-column.invariant.0, text, c.loop-column.invariant.1) at c.in_ok-push_field.ensures.fields in
    (c.in_ok-push_field.ensures.partial, pushed ∙ append_assoc before _ _ ∙ ap (λ t. before ++ t) (sym (map-range_with_len_more mark 1 column (column + 1) (omega arith))))
