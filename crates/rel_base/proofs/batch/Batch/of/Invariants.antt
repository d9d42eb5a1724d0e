use Rattle.std.proofs.Common.{◌≡◌, take}
use Rattle.rel_base.proofs.batch.Batch.of.Given as goal

abbrev pub invariant-loop-op : goal.invariant-loop-op
invariant-loop-op l = l.batch ≡ take l.op-index l.ops
