use Rattle.std.proofs.Common.{rules}
use Rattle.std.proofs.lemmas.List.Sorted.{IsPartitionPoint-from_clause}
use Rattle.fd_closure.specs.Closure.{is_short}
use Rattle.fd_closure.proofs.Grouping.{short-partitioned}
use Rattle.fd_closure.proofs.group.end_of.Goals as goal

pub returns-clause-place : goal.returns-clause-place
returns-clause-place c = IsPartitionPoint-from_clause (is_short c.args.column c.args.size) c.args.fds.now c.partition_point.result c.partition_point.ensures.partitioned
    (short-partitioned c.args.fds.now c.requires c.args.column c.args.size) (λ a r f' k. search rules)
