use Rattle.std.proofs.Common.{◌≡◌}
use Rattle.rel_base.specs.CodeTable.{CodeTable}
use Rattle.validator.specs.Kept.{AreKept}
use Rattle.validator.proofs.cache.Cache.share.Given as goal

abbrev pub invariant-loop-k : goal.invariant-loop-k
invariant-loop-k l = record {
  are : (s : CodeTable) → AreKept s l.fn.self.kept.items → AreKept s l.other.kept.items → AreKept s l.self.kept.items;
  weights : l.self.weights ≡ l.fn.self.weights;
}
