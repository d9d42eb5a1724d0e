use Rattle.std.proofs.Common.{map, take}
use Rattle.report_text.specs.Field.{field_bytes}
use Rattle.report_text.specs.Line.{text_in, HasFields}
use Rattle.report_text.proofs.lines.write_line.Given as goal

abbrev pub invariant-loop-field : goal.invariant-loop-field
invariant-loop-field l = HasFields (text_in l.fn.writer) (map field_bytes (take l.field-index l.fields)) l.writer
