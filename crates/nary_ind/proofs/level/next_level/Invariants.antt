use Rattle.std.proofs.Common.{◌≡◌, map, take}
use Rattle.std.specs.List.{flat_map}
use Rattle.nary_ind.specs.Levels.{grouped, next_groups}
use Rattle.nary_ind.specs.Keys.{AreLists}
use Rattle.nary_ind.proofs.level.next_level.Given as goal

abbrev pub invariant-loop-group : goal.invariant-loop-group
invariant-loop-group l = record {
  lists : AreLists l.known l.lists;
  groups : map grouped l.next.items ≡ flat_map (next_groups l.known) (map grouped (take l.group-index l.level));
}
