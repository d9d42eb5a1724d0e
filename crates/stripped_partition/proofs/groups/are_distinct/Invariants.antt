use Rattle.stripped_partition.proofs.Distinct.{Differing}
use Rattle.stripped_partition.proofs.groups.are_distinct.Given as goal

abbrev pub invariant-loop-k : goal.invariant-loop-k
invariant-loop-k l = Differing l.codes l.k
