use Rattle.std.proofs.Common.{◌≡◌, ◌++◌, map, take}
use Rattle.nary_ind.specs.ListInclusions.{from_to}
use Rattle.nary_ind.proofs.search.push_group.Given as goal

abbrev pub invariant-loop-list : goal.invariant-loop-list
invariant-loop-list l = l.found.items ≡ l.initial.found.items ++ map (from_to l.group.side) (take l.list-index l.group.into.items)
