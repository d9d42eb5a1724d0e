use Rattle.std.proofs.Common.{◌≡◌, ◌++◌, [], map}
use Rattle.std.specs.List.{range_with_len}
use Rattle.csv.specs.Records.{fields_of, partial_of}
use Rattle.report_text.specs.Field.{column_mark}
use Rattle.report_text.proofs.inclusion_lines.push_relation_marks.Given as goal

abbrev pub invariant-loop-column : goal.invariant-loop-column
invariant-loop-column l = (partial_of l.marks ≡ []) × (fields_of l.marks ≡ fields_of l.fn.marks ++ map (column_mark l.relation) (range_with_len 1 l.column))
