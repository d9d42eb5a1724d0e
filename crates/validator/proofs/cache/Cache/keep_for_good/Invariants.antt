use Rattle.std.proofs.Common.{◌≡◌, ◌≤◌, vec_len}
use Rattle.validator.proofs.KeptLists.{StillKept}
use Rattle.validator.proofs.cache.Cache.keep_for_good.Given as goal

abbrev pub invariant-loop-k : goal.invariant-loop-k
invariant-loop-k l = record {
  are : StillKept l.fn.self.kept.items l.self.kept.items;
  weights : l.self.weights ≡ l.fn.self.weights;
  len : vec_len l.self.kept ≡ vec_len l.fn.self.kept;
  lasting : l.self.lasting ≤ l.k;
}
