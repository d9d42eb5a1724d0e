use Rattle.std.proofs.Common.{arith, ◌*◌, ◌+◌, ◌≤◌, length}
use Rattle.agree_sets.proofs.Masks.{set-lt, set-more}
use Rattle.agree_sets.proofs.first_blocks.Goals as goal

pub joined_in_word-bits-requires-clause-bits : goal.joined_in_word-bits-requires-clause-bits
joined_in_word-bits-requires-clause-bits c =
    let room : 16 * c.loop-k.k ≤ length c.args.a.now = omega (arith, c.loop-k-test.true, c.requires.within) in
    set-lt (16 * c.loop-k.k) c.loop-k.bits c.args.a.now c.args.b.now c.loop-k.invariant room (omega (arith, room, c.requires.same))

pub loop-k-preserved : goal.loop-k-preserved
loop-k-preserved c =
    let room : 16 * c.loop-k.k ≤ length c.args.a.now = omega (arith, c.loop-k-test.true, c.requires.within) in
    set-more (16 * c.loop-k.k) 16 (16 * (c.loop-k.k + 1)) c.loop-k.bits c.block.result c.joined_in_word-bits.result c.args.a.now c.args.b.now
    c.loop-k.invariant c.block.ensures.value c.joined_in_word-bits.ensures (omega arith) room (omega (arith, room, c.requires.same))
