use Rattle.std.proofs.Common.{◌≡◌}
use Rattle.col_set.specs.ColSet.{IsSubset, minus}
use Rattle.stripped_partition.proofs.path.Path.take_rest.Given as goal

abbrev pub invariant-loop-column : goal.invariant-loop-column
invariant-loop-column l = (l.self.table ≡ l.initial.self.table) × IsSubset l.self.columns l.columns

abbrev pub decreases-loop-column : goal.decreases-loop-column
decreases-loop-column l = minus l.columns l.self.columns
