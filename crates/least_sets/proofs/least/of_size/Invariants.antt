use Rattle.std.proofs.Common.{◌≡◌, eqb, take}
use Rattle.std.specs.List.{filter}
use Rattle.col_set.specs.ColSet.{size}
use Rattle.least_sets.proofs.least.of_size.Given as goal

abbrev pub invariant-loop-x : goal.invariant-loop-x
invariant-loop-x l = l.sets.items ≡ filter (λ x. eqb (size x) l.size) (take l.x-index l.found)
