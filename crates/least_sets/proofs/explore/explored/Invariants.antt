use Rattle.std.proofs.Common.{◌≡◌, true, take}
use Rattle.std.specs.List.{All}
use Rattle.col_set.specs.Target.{has_target}
use Rattle.least_sets.proofs.Exploring.{HasExplored}
use Rattle.least_sets.proofs.explore.explored.Given as goal

abbrev pub invariant-loop-w : goal.invariant-loop-w
invariant-loop-w g l = record {
  explored : HasExplored l.choices l.rest (take l.w-index l.withdrawn) l.target l.tops.items l.sets.items;
  idle : All (λ w. has_target w l.target ≡ true) l.withdrawn → l.steps ≡ l.fn.steps;
}
