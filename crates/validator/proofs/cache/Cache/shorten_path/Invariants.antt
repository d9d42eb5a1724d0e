use Rattle.std.proofs.Common.{◌≡◌, ◌-◌, vec_len}
use Rattle.validator.proofs.KeptLists.{StillKept}
use Rattle.validator.proofs.cache.Cache.shorten_path.Given as goal

abbrev pub invariant-loop-k : goal.invariant-loop-k
invariant-loop-k l = record {
  are : StillKept l.fn.self.kept.items l.self.kept.items;
  weights : l.self.weights ≡ l.fn.self.weights;
}

abbrev pub decreases-loop-k : goal.decreases-loop-k
decreases-loop-k l = vec_len l.self.kept - l.k
