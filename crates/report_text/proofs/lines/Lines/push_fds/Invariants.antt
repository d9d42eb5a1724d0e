use Rattle.std.proofs.Common.{◌≡◌, ◌++◌, take}
use Rattle.std.specs.List.{flat_map}
use Rattle.report_text.specs.Report.{fd_line}
use Rattle.report_text.proofs.lines.Lines.push_fds.Given as goal

abbrev pub invariant-loop-fd : goal.invariant-loop-fd
invariant-loop-fd l = l.text.items ≡ l.fn.self ++ flat_map fd_line (take l.fd-index l.fds)
