use Rattle.std.proofs.Common.{map, take}
use Rattle.stripped_partition.specs.Groups.{cut, IsFlat}
use Rattle.stripped_partition.specs.Order.{group_at}
use Rattle.stripped_partition.proofs.order.laid_out.Given as goal

abbrev pub invariant-loop-key : goal.invariant-loop-key
invariant-loop-key l = IsFlat l.laid.rows.items l.laid.ends.items (map (group_at (cut 0 l.groups.rows.items l.groups.ends.items)) (take l.key-index l.keys))
