use Rattle.fd_closure.proofs.Walking.{Walking}
use Rattle.synth_3nf.proofs.reach.walked.Given as goal

abbrev pub invariant-loop-fd : goal.invariant-loop-fd
invariant-loop-fd l = Walking l.fds l.fn.start l.reached l.fd-index
