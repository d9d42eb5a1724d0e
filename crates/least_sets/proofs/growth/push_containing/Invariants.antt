use Rattle.std.proofs.Common.{◌≡◌, ◌++◌, take}
use Rattle.std.specs.List.{filter, list_any}
use Rattle.col_set.specs.ColSet.{subset}
use Rattle.least_sets.proofs.growth.push_containing.Given as goal

abbrev pub invariant-loop-x : goal.invariant-loop-x
invariant-loop-x l = l.changes.items ≡ l.fn.changes.items ++ filter (λ x. list_any (λ y. subset y x) l.found) (take l.x-index l.sets)
