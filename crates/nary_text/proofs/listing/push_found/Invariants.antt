use Rattle.std.proofs.Common.{◌≡◌, ◌++◌, take}
use Rattle.std.specs.List.{flat_map}
use Rattle.nary_text.specs.Inclusions.{inclusion_line}
use Rattle.nary_text.proofs.listing.push_found.Given as goal

abbrev pub invariant-loop-one : goal.invariant-loop-one
invariant-loop-one l = l.lines ≡ l.initial.lines ++ flat_map inclusion_line (take l.one-index l.found)
