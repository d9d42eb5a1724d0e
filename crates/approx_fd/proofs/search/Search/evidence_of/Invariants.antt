use Rattle.std.specs.List.{All}
use Rattle.col_set.specs.declared.target.Target.TheVariants.{Col}
use Rattle.approx_fd.specs.Search.{IsFailing}
use Rattle.approx_fd.proofs.search.Search.evidence_of.Given as goal

abbrev pub invariant-loop-failure : goal.invariant-loop-failure
invariant-loop-failure l = All (IsFailing l.self.table l.self.most (Col l.column)) l.sets.items
