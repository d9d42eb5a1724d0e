use Rattle.std.proofs.Common.{◌≡◌, take}
use Rattle.least_sets.specs.Growth.{having}
use Rattle.least_sets.proofs.growth.fill_having.Given as goal

abbrev pub invariant-loop-x : goal.invariant-loop-x
invariant-loop-x l = l.found.items ≡ having l.column (take l.x-index l.sets)
