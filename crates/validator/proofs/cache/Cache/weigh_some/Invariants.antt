use Rattle.validator.specs.Kept.{AreKept, AreWeights}
use Rattle.validator.proofs.cache.Cache.weigh_some.Given as goal

abbrev pub invariant-loop-weighed : goal.invariant-loop-weighed
invariant-loop-weighed g l = record {
  kept : AreKept l.snapshot l.self.kept.items;
  weights : AreWeights l.snapshot l.self.weights;
}
