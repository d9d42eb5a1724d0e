use Rattle.std.proofs.Common.{◌≡◌, ◌++◌, map, take}
use Rattle.std.specs.List.{flat_map}
use Rattle.nary_ind.specs.Levels.{grouped, listed_of}
use Rattle.nary_ind.proofs.search.push_level.Given as goal

abbrev pub invariant-loop-group : goal.invariant-loop-group
invariant-loop-group l = l.found.items ≡ l.initial.found.items ++ flat_map listed_of (map grouped (take l.group-index l.level))
