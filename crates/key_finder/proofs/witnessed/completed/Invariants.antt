use Rattle.std.proofs.Common.{◌≡◌, take}
use Rattle.key_finder.specs.Keys.{completed}
use Rattle.key_finder.proofs.witnessed.completed.Given as goal

abbrev pub invariant-loop-agreed : goal.invariant-loop-agreed
invariant-loop-agreed l = l.sets.items ≡ completed l.reach l.columns (take l.agreed-index l.agree_sets)
