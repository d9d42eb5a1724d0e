use Rattle.approx_fd.specs.Sweeps.{AreFindings}
use Rattle.approx_fd.proofs.by_workers.swept_by.Given as goal

abbrev pub invariant-loop-size : goal.invariant-loop-size
invariant-loop-size g l = AreFindings l.snapshot l.errors l.found

abbrev pub invariant-loop-more : goal.invariant-loop-more
invariant-loop-more g l = AreFindings l.snapshot l.errors l.found
