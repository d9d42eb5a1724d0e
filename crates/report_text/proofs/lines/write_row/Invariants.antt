use Rattle.std.proofs.Common.{take}
use Rattle.report_text.specs.Line.{text_in, HasFields}
use Rattle.report_text.proofs.lines.write_row.Given as goal

abbrev pub invariant-loop-place : goal.invariant-loop-place
invariant-loop-place l = HasFields (text_in l.fn.writer) (take l.place l.row) l.writer
