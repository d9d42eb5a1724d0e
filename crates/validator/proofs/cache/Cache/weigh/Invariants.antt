use Rattle.validator.proofs.KeptLists.{Keeping}
use Rattle.validator.proofs.Weights.{Weighing}
use Rattle.validator.proofs.cache.Cache.weigh.Given as goal

abbrev pub invariant-loop-column : goal.invariant-loop-column
invariant-loop-column l = record {
  keeping : Keeping l.snapshot l.self.kept.items l.left;
  weighing : Weighing l.snapshot l.fn.columns l.self.weights l.left;
}

abbrev pub decreases-loop-column : goal.decreases-loop-column
decreases-loop-column l = l.left
