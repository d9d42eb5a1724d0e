use Rattle.std.proofs.Common.{◌≡◌, ◌++◌, take}
use Rattle.std.specs.List.{flat_map}
use Rattle.report_text.specs.Tables.{alternate_line, alternates_of}
use Rattle.report_text.proofs.lines.Lines.push_alternates.Given as goal

abbrev pub invariant-loop-table : goal.invariant-loop-table
invariant-loop-table l = l.self ≡ l.fn.self ++ flat_map alternate_line (alternates_of (take l.table-index l.alternates) l.number)
