use Rattle.std.proofs.Common.{◌≡◌, ◌++◌, take}
use Rattle.std.specs.List.{enumerate_from, flat_map}
use Rattle.report_text.specs.Report.{column_line}
use Rattle.report_text.proofs.lines.Lines.push_columns.Given as goal

abbrev pub invariant-loop-place : goal.invariant-loop-place
invariant-loop-place l = l.self ≡ l.fn.self ++ flat_map column_line (take l.place (enumerate_from 1 l.names))
