use Rattle.std.proofs.Common.{arith, vec_len}
use Rattle.stripped_partition.specs.Groups.{cut}
use Rattle.stripped_partition.proofs.OrderLoops.{flat_none, copied_short, flat_more, flat_all}
use Rattle.stripped_partition.proofs.order.laid_out.Goals as goal

pub loop-key-init : goal.loop-key-init
loop-key-init c = flat_none (cut 0 c.args.groups.now.rows.items c.args.groups.now.ends.items) c.args.keys.now c.in_ok-with_capacity.field-0.items c.in_ok-with_capacity-2.field-0.items c.in_ok-with_capacity.ensures.items c.in_ok-with_capacity-2.ensures.items

pub push_group-requires-clause-short : goal.push_group-requires-clause-short
push_group-requires-clause-short c =
    let at = c.loop-key.laid in
    let s = copied_short (cut 0 c.args.groups.now.rows.items c.args.groups.now.ends.items) c.args.keys.now at.rows.items at.ends.items c.loop-key.key-index c.loop-key-test.true c.loop-key.invariant c.requires.short in
    omega (arith, at.rows.ok.0)

pub loop-key-preserved : goal.loop-key-preserved
loop-key-preserved c =
    let at = c.loop-key.laid in
    flat_more (cut 0 c.args.groups.now.rows.items c.args.groups.now.ends.items) c.args.keys.now at.rows.items at.ends.items c.loop-key.key-index c.loop-key-test.true c.loop-key.invariant
    c.push_group.new.laid.rows.items c.push_group.new.laid.ends.items (vec_len at.rows) (omega (arith, at.rows.ok.0)) c.in_ok-push_group.ensures.rows c.in_ok-push_group.ensures.ends

pub returns : goal.returns
returns c = flat_all (cut 0 c.args.groups.now.rows.items c.args.groups.now.ends.items) c.args.keys.now c.loop-key.laid.rows.items c.loop-key.laid.ends.items c.loop-key.key-index c.loop-key-test.false c.loop-key.invariant
