use Rattle.std.proofs.Common.{rules}
use Rattle.std.proofs.lemmas.List.Sorted.{IsPartitionPoint-from_clause}
use Rattle.fd_closure.specs.Closure.{is_before}
use Rattle.fd_closure.proofs.Grouping.{before-partitioned}
use Rattle.fd_closure.proofs.group.start_of.Goals as goal

pub returns-clause-place : goal.returns-clause-place
returns-clause-place c = IsPartitionPoint-from_clause (is_before c.args.column) c.args.fds.now c.partition_point.result c.partition_point.ensures.partitioned
    (before-partitioned c.args.fds.now c.requires c.args.column) (λ a r f' k. search rules)
