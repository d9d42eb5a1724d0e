use Rattle.least_sets.proofs.Sorting.{sorted_order, sorted_members}
use Rattle.least_sets.proofs.order.sorted.Goals as goal

pub returns-clause-order : goal.returns-clause-order
returns-clause-order c = sorted_order c.sort_unstable.new.self.items c.dedup.new.self.items c.sort_unstable.ensures.sorted c.dedup.ensures.filtered

pub returns-clause-members : goal.returns-clause-members
returns-clause-members c = sorted_members c.args.sets.items c.sort_unstable.new.self.items c.dedup.new.self.items c.sort_unstable.ensures.permutation c.dedup.ensures.filtered
