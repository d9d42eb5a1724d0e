use Rattle.fd_closure.proofs.Reaching.{Reaching}
use Rattle.fd_closure.proofs.reach.closure.Given as goal

abbrev pub invariant-loop-column : goal.invariant-loop-column
invariant-loop-column l = Reaching l.covers.fds l.x l.reached l.rest

abbrev pub decreases-loop-column : goal.decreases-loop-column
decreases-loop-column l = l.rest
