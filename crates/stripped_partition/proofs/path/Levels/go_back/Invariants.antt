use Rattle.rel_base.specs.CodeTable.{CodeTable}
use Rattle.stripped_partition.specs.Paths.{AreLevels}
use Rattle.stripped_partition.proofs.Ways.{count_of}
use Rattle.stripped_partition.proofs.path.Levels.go_back.Given as goal

abbrev pub invariant-loop-columns : goal.invariant-loop-columns
invariant-loop-columns l = (s : CodeTable) → AreLevels s l.initial.self → AreLevels s l.self

abbrev pub decreases-loop-columns : goal.decreases-loop-columns
decreases-loop-columns l = count_of l.self
