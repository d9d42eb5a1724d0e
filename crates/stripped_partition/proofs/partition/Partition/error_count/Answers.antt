use Rattle.std.proofs.Common.{ap, arith}
use Rattle.stripped_partition.specs.Stripped.{error_of}
use Rattle.stripped_partition.proofs.Cuts.{few_ends, error_of-cut}
use Rattle.stripped_partition.proofs.partition.Partition.error_count.Goals as goal

pub overflow_cast-result-2 : goal.overflow_cast-result-2
overflow_cast-result-2 c =
    let l = few_ends c.self.inside.rows.items c.self.inside.ends.items c.self.invariant in
    let s = c.self.invariant.short in
    record { fits = omega (arith, c.self.inside.ends.ok.0) }

pub overflow_sub-result : goal.overflow_sub-result
overflow_sub-result c =
    let l = few_ends c.self.inside.rows.items c.self.inside.ends.items c.self.invariant in
    omega (arith, c.self.inside.ends.ok.0, c.self.inside.rows.ok.0)

pub returns : goal.returns
returns c =
    let e = error_of-cut c.self.inside.rows.items c.self.inside.ends.items c.self.invariant in
    let v = ap error_of c.self.view_is in
    omega (arith, c.self.inside.ends.ok.0, c.self.inside.rows.ok.0)
