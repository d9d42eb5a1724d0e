use Rattle.validator.proofs.KeptLists.{Chosen}
use Rattle.validator.proofs.cache.lightest.Given as goal

abbrev pub invariant-loop-column : goal.invariant-loop-column
invariant-loop-column l = Chosen l.fn.columns l.best l.left

abbrev pub decreases-loop-column : goal.decreases-loop-column
decreases-loop-column l = l.left
