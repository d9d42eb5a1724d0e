use Rattle.std.proofs.Common.{◌≡◌}
use Rattle.col_set.specs.ColSet.{IsSubset}
use Rattle.stripped_partition.proofs.path.Path.go_to.Given as goal

abbrev pub invariant-loop-column : goal.invariant-loop-column
invariant-loop-column l = (l.self.table ≡ l.fn.self.table) × IsSubset l.self.columns l.columns
