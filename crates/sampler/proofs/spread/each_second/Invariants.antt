use Rattle.std.proofs.Common.{◌≡◌, length}
use Rattle.sampler.specs.Spread.{AreAmong}
use Rattle.sampler.proofs.spread.each_second.Given as goal

abbrev pub invariant-loop-k : goal.invariant-loop-k
invariant-loop-k l = record {
  among : AreAmong l.pairs l.halved.items;
  long : length l.halved.items ≡ l.k;
}
