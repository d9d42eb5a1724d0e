use Rattle.key_finder.proofs.Reaching.{Reached}
use Rattle.key_finder.proofs.witnessed.reach.Given as goal

abbrev pub invariant-loop-column : goal.invariant-loop-column
invariant-loop-column l = Reached l.fn.columns l.reach l.left

abbrev pub decreases-loop-column : goal.decreases-loop-column
decreases-loop-column l = l.left
