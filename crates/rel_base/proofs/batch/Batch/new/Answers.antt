use Rattle.rel_base.proofs.PackedOps.{ArePackedOps-none, ops-none}
use Rattle.rel_base.proofs.batch.Batch.new.Goals as goal

pub invariant_of-result : goal.invariant_of-result
invariant_of-result c = ArePackedOps-none c.new.result.items c.new-2.result.items c.new-3.result c.new.ensures.items c.new-2.ensures.items c.new-3.ensures

pub returns : goal.returns
returns c = ops-none c.new.result.items c.new-2.result.items c.new-3.result c.new.ensures.items
