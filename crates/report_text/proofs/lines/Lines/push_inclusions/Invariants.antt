use Rattle.std.proofs.Common.{◌≡◌, ◌++◌, take}
use Rattle.std.specs.List.{flat_map}
use Rattle.report_text.specs.Inclusions.{inclusion_line}
use Rattle.report_text.proofs.lines.Lines.push_inclusions.Given as goal

abbrev pub invariant-loop-dependent : goal.invariant-loop-dependent
invariant-loop-dependent l = l.self ≡ l.fn.self ++ flat_map (inclusion_line l.widths) (take l.dependent-index l.pairs)
