use Rattle.std.proofs.Common.{◌∙◌, arith}
use Rattle.stripped_partition.specs.Groups.{cut}
use Rattle.stripped_partition.proofs.Cuts.{length-cut}
use Rattle.stripped_partition.proofs.OrderLoops.{rising_more, rising_all}
use Rattle.stripped_partition.proofs.order.is_in_order.Goals as goal

pub loop-k-preserved : goal.loop-k-preserved
loop-k-preserved c =
    let g = c.args.groups.now in
    let n = length-cut 0 g.rows.items g.ends.items in
    let e = c.len-k-end.ensures in
    let l = c.loop-k-test.true in
    rising_more (cut 0 g.rows.items g.ends.items) c.loop-k.k c.loop-k.last c.number-first.result (omega (arith, g.ends.ok.0)) c.loop-k.invariant (c.number-first.ensures.value ∙ c.first_of.ensures) c.if-first-last.false

pub returns : goal.returns
returns c t =
    let g = c.args.groups.now in
    let n = length-cut 0 g.rows.items g.ends.items in
    let e = c.len-k-end.ensures in
    let l = c.loop-k-test.false in
    rising_all (cut 0 g.rows.items g.ends.items) c.loop-k.k c.loop-k.last (omega (arith, g.ends.ok.0)) c.loop-k.invariant
