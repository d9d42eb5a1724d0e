use Rattle.std.proofs.Common.{take}
use Rattle.least_sets.proofs.Branches.{LackedSoFar}
use Rattle.least_sets.proofs.scans.lacked_by_all.Given as goal

abbrev pub invariant-loop-w : goal.invariant-loop-w
invariant-loop-w g l = LackedSoFar (take l.w-index l.pending) l.fn.free l.lacked
