use Rattle.std.proofs.Common.{◌≡◌, map}
use Rattle.col_set.specs.ColSet.{upto}
use Rattle.stripped_partition.specs.Groups.{cut}
use Rattle.stripped_partition.specs.Order.{key_of}
use Rattle.stripped_partition.proofs.order.keys_of.Given as goal

abbrev pub invariant-loop-k : goal.invariant-loop-k
invariant-loop-k l = l.keys.items ≡ map (key_of (cut 0 l.groups.rows.items l.groups.ends.items)) (upto l.k)
