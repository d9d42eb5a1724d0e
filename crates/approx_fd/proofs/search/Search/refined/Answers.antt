use Rattle.std.proofs.Common.{subst}
use Rattle.col_set.specs.ColSet.{with}
use Rattle.rel_base.specs.CodeTable.{CodeTable}
use Rattle.stripped_partition.specs.AnyOrder.{AreGroupsBy}
use Rattle.approx_fd.specs.Search.{Searching}
use Rattle.approx_fd.proofs.search.Search.refined.Goals as goal

pub returns-clause-by : goal.returns-clause-by
returns-clause-by c =
    subst (λ (s : Searching). AreGroupsBy s.table (with c.args.climb.now.columns c.args.column) c.in_ok-finer.finer) c.self.view_is
    (c.in_ok-finer.ensures.groups c.args.climb.now.columns
    (subst (λ (s : CodeTable). AreGroupsBy s c.args.climb.now.columns c.groups_of-groups.result.now) c.self.invariant.0 c.groups_of-groups.ensures.by))
