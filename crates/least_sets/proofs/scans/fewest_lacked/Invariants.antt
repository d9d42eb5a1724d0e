use Rattle.least_sets.proofs.Branches.{FewestSoFar}
use Rattle.least_sets.proofs.scans.fewest_lacked.Given as goal

abbrev pub invariant-loop-w : goal.invariant-loop-w
invariant-loop-w g l = FewestSoFar l.pending l.free l.fewest
