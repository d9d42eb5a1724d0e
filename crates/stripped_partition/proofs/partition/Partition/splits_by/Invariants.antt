use Rattle.stripped_partition.proofs.SplitPair.{Unsplit}
use Rattle.stripped_partition.proofs.partition.Partition.splits_by.Given as goal

abbrev pub invariant-loop-k : goal.invariant-loop-k
invariant-loop-k l = Unsplit l.snapshot l.column l.self l.k
