use Rattle.std.proofs.Common.{◌≡◌, ◌++◌}
use Rattle.least_sets.specs.Growth.{grown}
use Rattle.least_sets.proofs.growth.push_all_grown.Given as goal

abbrev pub invariant-loop-column : goal.invariant-loop-column
invariant-loop-column l = l.sets.items ≡ l.fn.sets.items ++ grown l.column l.choices l.z l.inside l.near
