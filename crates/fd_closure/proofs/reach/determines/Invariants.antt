use Rattle.fd_closure.proofs.Reaching.{Covering}
use Rattle.fd_closure.proofs.reach.determines.Given as goal

abbrev pub invariant-loop-column : goal.invariant-loop-column
invariant-loop-column l = Covering l.covers.fds l.x l.fn.s l.rest

abbrev pub decreases-loop-column : goal.decreases-loop-column
decreases-loop-column l = l.rest
