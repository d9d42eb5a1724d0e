use Rattle.std.proofs.Common.{length, take, zip}
use Rattle.stripped_partition.proofs.PlacingStep.{Placing}
use Rattle.stripped_partition.proofs.groups.split_group.Given as goal

abbrev pub invariant-loop-i : goal.invariant-loop-i
invariant-loop-i l = Placing (zip l.rows l.codes) (length l.slots) l.initial.groups.rows.items l.initial.groups.ends.items l.groups.rows.items l.groups.ends.items l.slots (take l.i (zip l.rows l.codes))
