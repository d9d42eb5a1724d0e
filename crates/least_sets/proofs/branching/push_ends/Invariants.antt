use Rattle.least_sets.proofs.Branches.{EndsSoFar}
use Rattle.least_sets.proofs.branching.push_ends.Given as goal

abbrev pub invariant-loop-column : goal.invariant-loop-column
invariant-loop-column l = EndsSoFar l.chosen l.fn.free l.fn.lacked l.rest l.left l.fn.found.items l.found.items

abbrev pub decreases-loop-column : goal.decreases-loop-column
decreases-loop-column l = l.rest
