use Rattle.std.proofs.Common.{length, ◌-◌, ◌≤◌}
use Rattle.fd_closure.specs.Blocks.{AreFiled}
use Rattle.fd_closure.proofs.blocks.blocks_of.Given as goal

abbrev pub invariant-loop-start : goal.invariant-loop-start
invariant-loop-start l = record {
  bound : l.start ≤ length l.sides;
  filed : AreFiled l.sides l.blocks l.start;
}

abbrev pub decreases-loop-start : goal.decreases-loop-start
decreases-loop-start l = length l.sides - l.start
