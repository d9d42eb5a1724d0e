use Rattle.std.proofs.Common.{◌≡◌}
use Rattle.fd_closure.proofs.blocks.first_apart.Given as goal

abbrev pub invariant-loop-column : goal.invariant-loop-column
invariant-loop-column l = l.one ≡ l.fn.one

abbrev pub decreases-loop-column : goal.decreases-loop-column
decreases-loop-column l = l.rest
