use Rattle.std.proofs.Common.{length}
use Rattle.least_sets.proofs.Branches.{OutermostSoFar}
use Rattle.least_sets.proofs.outermost.outermost.Given as goal

abbrev pub invariant-loop-w : goal.invariant-loop-w
invariant-loop-w g l = OutermostSoFar l.fn.agree_sets.items l.fn.columns l.rest.items l.kept.items

abbrev pub decreases-loop-w : goal.decreases-loop-w
decreases-loop-w g l = length l.rest.items
