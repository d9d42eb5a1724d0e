use Rattle.std.proofs.Common.{◌-◌}
use Rattle.negative_cover.specs.FoundPairs.{AreSeen}
use Rattle.negative_cover.proofs.AllPairs.{AreComparedBelow}
use Rattle.negative_cover.proofs.pairing.all_pairs.Given as goal

abbrev pub invariant-loop-alloc : goal.invariant-loop-alloc
invariant-loop-alloc l = record {
  seen : AreSeen l.found;
  compared : AreComparedBelow l.snapshot l.fn.from l.start l.found.pairs.items;
}

abbrev pub decreases-loop-alloc : goal.decreases-loop-alloc
decreases-loop-alloc l = l.to - l.start
