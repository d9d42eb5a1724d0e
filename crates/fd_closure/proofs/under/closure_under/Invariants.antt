use Rattle.col_set.specs.ColSet.{all, minus}
use Rattle.fd_closure.proofs.Walking.{Closing}
use Rattle.fd_closure.proofs.under.closure_under.Given as goal

abbrev pub invariant-loop-reached : goal.invariant-loop-reached
invariant-loop-reached l = Closing l.fds l.fn.x l.reached l.next

abbrev pub decreases-loop-reached : goal.decreases-loop-reached
decreases-loop-reached l = minus (all 128) l.reached
