use Rattle.fd_closure.proofs.Walking.{Walking}
use Rattle.fd_closure.proofs.under.walked.Given as goal

abbrev pub invariant-loop-fd : goal.invariant-loop-fd
invariant-loop-fd l = Walking l.fds l.fn.start l.reached l.fd-index
