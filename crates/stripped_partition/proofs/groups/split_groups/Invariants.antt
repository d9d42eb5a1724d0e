use Rattle.std.proofs.Common.{length, zip}
use Rattle.stripped_partition.proofs.SplitLoop.{Splitted}
use Rattle.stripped_partition.proofs.groups.split_groups.Given as goal

abbrev pub invariant-loop-end : goal.invariant-loop-end
invariant-loop-end l = Splitted (length l.slots) (zip l.rows l.codes) l.ends l.groups.rows.items l.groups.ends.items l.slots l.end-index l.start
