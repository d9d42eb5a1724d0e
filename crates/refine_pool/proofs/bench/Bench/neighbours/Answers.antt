use Rattle.std.proofs.Common.{sym, subst}
use Rattle.refine_pool.specs.Work.{AreDifferent}
use Rattle.refine_pool.proofs.Working.{window-different}
use Rattle.refine_pool.proofs.bench.Bench.neighbours.Goals as goal

pub returns : goal.returns
returns c = subst AreDifferent (sym c.truncate.ensures.items) (window-different _ _ _ c.in_ok-pairs.pairs.items c.in_ok-pairs.ensures 64)
