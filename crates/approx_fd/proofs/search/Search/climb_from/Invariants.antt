use Rattle.std.proofs.Common.{◌≡◌}
use Rattle.col_set.specs.ColSet.{IsSubset}
use Rattle.approx_fd.specs.Search.{IsClimb}
use Rattle.approx_fd.proofs.search.Search.climb_from.Given as goal

abbrev pub invariant-loop-column : goal.invariant-loop-column
invariant-loop-column l = record {
  table : l.self.table ≡ l.fn.self.table;
  most : l.self.most ≡ l.fn.self.most;
  climb : IsClimb l.self l.target l.climb;
  inside : IsSubset l.fn.left l.climb.columns;
}
