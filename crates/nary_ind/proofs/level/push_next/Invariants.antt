use Rattle.std.proofs.Common.{◌≡◌, ◌++◌, map}
use Rattle.std.specs.List.{filter}
use Rattle.col_set.specs.ColSet.{upto}
use Rattle.nary_ind.specs.Levels.{extend, grouped, has_some, next_into}
use Rattle.nary_ind.specs.Keys.{AreLists}
use Rattle.nary_ind.proofs.level.push_next.Given as goal

abbrev pub invariant-loop-column : goal.invariant-loop-column
invariant-loop-column l = record {
  lists : AreLists l.known l.lists;
  groups : map grouped l.next.items ≡ map grouped l.initial.next.items ++ filter has_some (map (λ c. (extend l.group.side c, next_into l.known (extend l.group.side c) l.group.into.items)) (upto l.column));
}
