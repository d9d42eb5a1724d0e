use Rattle.std.proofs.Common.{take}
use Rattle.least_sets.proofs.Runs.{SeenSoFar}
use Rattle.least_sets.proofs.scans.seen_in.Given as goal

abbrev pub invariant-loop-w : goal.invariant-loop-w
invariant-loop-w g l = SeenSoFar (take l.w-index l.sets) l.columns l.left
