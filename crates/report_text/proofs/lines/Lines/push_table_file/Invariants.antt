use Rattle.std.proofs.Common.{◌≡◌, ◌++◌, take}
use Rattle.std.specs.List.{flat_map}
use Rattle.report_text.specs.Line.{line}
use Rattle.report_text.proofs.lines.Lines.push_table_file.Given as goal

abbrev pub invariant-loop-row : goal.invariant-loop-row
invariant-loop-row l = l.self ≡ (l.fn.self ++ line l.names) ++ flat_map line (take l.row-index l.rows)
