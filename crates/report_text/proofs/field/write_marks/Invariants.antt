use Rattle.std.proofs.Common.{◌≡◌, ◌++◌, take}
use Rattle.report_text.proofs.MarksText.{marks_tail}
use Rattle.report_text.proofs.field.write_marks.Given as goal

abbrev pub invariant-loop-column : goal.invariant-loop-column
invariant-loop-column l = l.text.items ≡ l.initial.text.items ++ marks_tail l.relation (take l.column-index l.rest)
