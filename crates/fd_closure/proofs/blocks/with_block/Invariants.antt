use Rattle.std.proofs.Common.{◌≡◌, ◌≤◌, ◌+◌, ◌-◌}
use Rattle.fd_closure.specs.Blocks.{with_sides}
use Rattle.fd_closure.proofs.blocks.with_block.Given as goal

abbrev pub invariant-loop-k : goal.invariant-loop-k
invariant-loop-k l = record {
  bound : l.k ≤ l.fn.block.end + (l.fn.block.start - l.fn.block.end);
  reached : l.reached ≡ with_sides l.sides l.x l.fn.block.start (l.k - l.fn.block.start) l.fn.reached;
}
