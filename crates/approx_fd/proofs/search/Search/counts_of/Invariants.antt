use Rattle.std.specs.List.{All}
use Rattle.col_set.specs.declared.target.Target.TheVariants.{Col}
use Rattle.approx_fd.specs.Search.{IsCounted}
use Rattle.approx_fd.proofs.search.Search.counts_of.Given as goal

abbrev pub invariant-loop-count : goal.invariant-loop-count
invariant-loop-count l = All (IsCounted l.self.table l.self.most (Col l.column)) l.held.items
