use Rattle.std.proofs.Common.{◌≡◌, not, take}
use Rattle.std.specs.List.{filter}
use Rattle.col_set.specs.Target.{has_target}
use Rattle.least_sets.proofs.branching.least.Given as goal

abbrev pub invariant-loop-w : goal.invariant-loop-w
invariant-loop-w g l = l.lacking.items ≡ filter (λ w. not (has_target w l.target)) (take l.w-index l.agree_sets)
