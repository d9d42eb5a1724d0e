use Rattle.fd_closure.specs.Blocks.{HaveCommon}
use Rattle.fd_closure.proofs.blocks.end_of.Given as goal

abbrev pub invariant-loop-end : goal.invariant-loop-end
invariant-loop-end l = HaveCommon l.sides l.common l.start l.end
