use Rattle.std.proofs.Common.{◌-◌}
use Rattle.validator.specs.Kept.{AreKept, AreWeights}
use Rattle.validator.proofs.cache.Cache.weigh_by.Given as goal

abbrev pub invariant-loop-first : goal.invariant-loop-first
invariant-loop-first g l = record {
  kept : AreKept l.snapshot l.self.kept.items;
  weights : AreWeights l.snapshot l.self.weights;
}

abbrev pub decreases-loop-first : goal.decreases-loop-first
decreases-loop-first g l = l.count - l.first
