use Rattle.std.proofs.Common.{◌≡◌, map}
use Rattle.nary_ind.specs.ListInclusions.{list_inclusions}
use Rattle.nary_ind.specs.Levels.{grouped, groups}
use Rattle.nary_ind.specs.Keys.{AreLists}
use Rattle.nary_ind.proofs.search.included_lists.Given as goal

abbrev pub invariant-loop-columns : goal.invariant-loop-columns
invariant-loop-columns g l = record {
  lists : AreLists l.relations l.lists;
  level : map grouped l.level.items ≡ groups l.relations l.columns;
  found : l.found.items ≡ list_inclusions l.columns l.relations;
}
