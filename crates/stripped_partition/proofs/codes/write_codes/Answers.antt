use Rattle.std.proofs.Common.{[], length, ap, ◌∙◌, arith}
use Rattle.stripped_partition.proofs.codes.write_codes.Goals as goal

pub gather-requires-clause-given : goal.gather-requires-clause-given
gather-requires-clause-given c k d l =
    let h = c.requires.given k d l in
    let e = c.column.ensures.bounds.coded c.args.column [] c.requires.column in
    let p = ap length (c.parts.ensures ∙ c.column.ensures.value) in
    omega arith
