use Rattle.std.proofs.Common.{take}
use Rattle.least_sets.specs.BySize.{AreBySize}
use Rattle.least_sets.specs.Drafts.{lists_behind}
use Rattle.least_sets.proofs.order.by_size.Given as goal

abbrev pub invariant-loop-x : goal.invariant-loop-x
invariant-loop-x l = AreBySize (take l.x-index l.x-items) (lists_behind l.lists.items)
