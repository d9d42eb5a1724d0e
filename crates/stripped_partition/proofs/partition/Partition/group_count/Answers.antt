use Rattle.std.proofs.Common.{length, ap, arith}
use Rattle.stripped_partition.proofs.Cuts.{length-cut}
use Rattle.stripped_partition.proofs.partition.Partition.group_count.Goals as goal

pub returns : goal.returns
returns c =
    let e = length-cut 0 c.self.inside.rows.items c.self.inside.ends.items in
    let v = ap length c.self.view_is in
    omega (arith, c.self.inside.ends.ok.0)
