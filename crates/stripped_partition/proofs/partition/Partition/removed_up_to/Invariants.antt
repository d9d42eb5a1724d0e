use Rattle.std.proofs.Common.{◌≡◌, ◌≤◌, take}
use Rattle.stripped_partition.specs.Removed.{removed_of}
use Rattle.stripped_partition.proofs.partition.Partition.removed_up_to.Given as goal

abbrev pub invariant-loop-k : goal.invariant-loop-k
invariant-loop-k l = (l.removed ≡ removed_of l.snapshot l.column (take l.k l.self)) × (l.removed ≤ l.most) × (l.tally ≡ l.initial.tally)
