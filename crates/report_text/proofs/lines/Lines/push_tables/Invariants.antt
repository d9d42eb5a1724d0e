use Rattle.std.proofs.Common.{◌≡◌, ◌++◌, take}
use Rattle.std.specs.List.{enumerate_from, flat_map}
use Rattle.report_text.specs.Tables.{table_lines}
use Rattle.report_text.proofs.lines.Lines.push_tables.Given as goal

abbrev pub invariant-loop-place : goal.invariant-loop-place
invariant-loop-place l = l.self ≡ l.fn.self ++ flat_map (table_lines l.alternates) (take l.place (enumerate_from 1 l.tables))
