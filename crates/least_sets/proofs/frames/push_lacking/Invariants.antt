use Rattle.std.proofs.Common.{◌≡◌, ◌++◌, take}
use Rattle.least_sets.specs.Branches.{lacking}
use Rattle.least_sets.proofs.frames.push_lacking.Given as goal

abbrev pub invariant-loop-w : goal.invariant-loop-w
invariant-loop-w g l = l.found.items ≡ l.fn.found.items ++ lacking l.column (take l.w-index l.sets)
