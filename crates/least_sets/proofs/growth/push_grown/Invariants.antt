use Rattle.std.proofs.Common.{◌≡◌, ◌++◌, take, map}
use Rattle.col_set.specs.ColSet.{with}
use Rattle.least_sets.specs.Growth.{unblocked}
use Rattle.least_sets.proofs.growth.push_grown.Given as goal

abbrev pub invariant-loop-c : goal.invariant-loop-c
invariant-loop-c l = l.grown.items ≡ l.fn.grown.items ++ unblocked l.blockers (map (λ c. with c l.column) (take l.c-index l.inside))
