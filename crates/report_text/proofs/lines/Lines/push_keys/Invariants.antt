use Rattle.std.proofs.Common.{◌≡◌, ◌++◌, take}
use Rattle.std.specs.List.{flat_map}
use Rattle.report_text.specs.Report.{key_line}
use Rattle.report_text.proofs.lines.Lines.push_keys.Given as goal

abbrev pub invariant-loop-key : goal.invariant-loop-key
invariant-loop-key l = l.text.items ≡ l.fn.self ++ flat_map key_line (take l.key-index l.keys)
