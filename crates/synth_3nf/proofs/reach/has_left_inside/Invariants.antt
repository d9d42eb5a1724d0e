use Rattle.std.proofs.Common.{◌≡◌, length}
use Rattle.fd_closure.specs.Closure.{has_left_inside}
use Rattle.synth_3nf.specs.Ending.{AreFrom}
use Rattle.synth_3nf.proofs.reach.has_left_inside.Given as goal

abbrev pub invariant-loop-fd : goal.invariant-loop-fd
invariant-loop-fd l = record {
  same : has_left_inside l.rest l.x l.right ≡ has_left_inside l.later l.x l.right;
  from : AreFrom l.right l.rest;
}

abbrev pub decreases-loop-fd : goal.decreases-loop-fd
decreases-loop-fd l = length l.rest
