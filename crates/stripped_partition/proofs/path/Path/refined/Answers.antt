use Rattle.std.proofs.Common.{subst}
use Rattle.col_set.specs.ColSet.{with}
use Rattle.stripped_partition.specs.AnyOrder.{AreGroupsBy}
use Rattle.stripped_partition.specs.Paths.{columns_of}
use Rattle.stripped_partition.specs.Standing.{Standing}
use Rattle.stripped_partition.proofs.path.Path.refined.Goals as goal

pub returns-clause-groups : goal.returns-clause-groups
returns-clause-groups c =
    subst (λ (v : Standing). AreGroupsBy v.table (with v.columns c.args.column) c.in_ok-partition.partition) c.self.view_is
    (c.in_ok-partition.ensures.groups (columns_of c.self.inside.levels.top) c.groups-groups.ensures.by)
