use Rattle.std.proofs.Common.{ltb, sym, rules}
use Rattle.std.proofs.lemmas.List.Sorted.{IsPartitionPoint-from_clause, IsPartitionedBy-ltb}
use Rattle.stripped_partition.proofs.Coding.{count_point}
use Rattle.stripped_partition.proofs.codes.rank.Goals as goal

pub returns : goal.returns
returns c =
    let parted = IsPartitionedBy-ltb (λ x. x) c.args.sorted.now c.args.code c.requires.sorted in
    let point = IsPartitionPoint-from_clause (λ x. ltb x c.args.code) c.args.sorted.now c.partition_point.result c.partition_point.ensures.partitioned parted (λ a r q k. search rules) in
    sym (count_point (λ d. ltb d c.args.code) c.args.sorted.now c.partition_point.result c.partition_point.ensures.bound point.0 point.1)
