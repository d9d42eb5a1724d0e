use Rattle.std.proofs.Common.{◌≡◌, [], take}
use Rattle.std.specs.List.{enumerate_from, flat_map}
use Rattle.csv.specs.Records.{fields_of, partial_of}
use Rattle.report_text.specs.Inclusions.{relation_marks}
use Rattle.report_text.proofs.inclusion_lines.column_marks.Given as goal

abbrev pub invariant-loop-place : goal.invariant-loop-place
invariant-loop-place l = (partial_of l.marks ≡ []) × (fields_of l.marks ≡ flat_map relation_marks (take l.place (enumerate_from 1 l.widths)))
