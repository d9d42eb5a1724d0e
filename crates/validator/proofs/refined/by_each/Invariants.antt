use Rattle.validator.proofs.Refinements.{Underway}
use Rattle.validator.proofs.refined.by_each.Given as goal

abbrev pub invariant-loop-column : goal.invariant-loop-column
invariant-loop-column l = Underway l.snapshot l.fn.columns l.partition l.done l.left

abbrev pub decreases-loop-column : goal.decreases-loop-column
decreases-loop-column l = l.left
