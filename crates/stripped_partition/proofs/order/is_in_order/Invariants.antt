use Rattle.stripped_partition.specs.Groups.{cut}
use Rattle.stripped_partition.proofs.OrderLoops.{Rising}
use Rattle.stripped_partition.proofs.order.is_in_order.Given as goal

abbrev pub invariant-loop-k : goal.invariant-loop-k
invariant-loop-k l = Rising (cut 0 l.groups.rows.items l.groups.ends.items) l.k l.last
