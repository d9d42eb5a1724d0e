use Rattle.key_finder.proofs.Judging.{Seeking}
use Rattle.key_finder.proofs.rounds.disproofs.Given as goal

abbrev pub invariant-loop-column : goal.invariant-loop-column
invariant-loop-column l = Seeking l.snapshot l.fn.columns l.path.columns l.left l.found.items

abbrev pub decreases-loop-column : goal.decreases-loop-column
decreases-loop-column l = l.left
