use Rattle.std.proofs.Common.{◌≡◌, ◌++◌, take}
use Rattle.std.specs.List.{flat_map}
use Rattle.approx_text.specs.Approximate.{afd_line}
use Rattle.approx_text.proofs.approximating.push_found.Given as goal

abbrev pub invariant-loop-one : goal.invariant-loop-one
invariant-loop-one l = l.lines ≡ l.initial.lines ++ flat_map afd_line (take l.one-index l.found)
