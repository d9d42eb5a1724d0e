use Rattle.std.proofs.Common.{length, sym, subst}
use Rattle.col_set.specs.Target.{IsColumnTarget}
use Rattle.rel_base.specs.CodeTable.{CodeTable}
use Rattle.approx_fd.proofs.search.Search.climb_from.Goals as goal

pub climbed-requires-clause-target : goal.climbed-requires-clause-target
climbed-requires-clause-target c = subst (λ (s : CodeTable). IsColumnTarget (length s.codes) c.args.target) (sym c.loop-column.invariant.table) c.requires.target

pub climbed-requires-clause-climb : goal.climbed-requires-clause-climb
climbed-requires-clause-climb c = c.loop-column.invariant.climb
