use Rattle.std.proofs.Common.{arith, ◌*◌, ◌+◌, ◌≤◌, ◌<◌, length, refl}
use Rattle.agree_sets.proofs.Masks.{set-lt, set-more, agreement_bits-one}
use Rattle.agree_sets.proofs.agreement.Goals as goal

pub joined-bits-requires-clause-bits : goal.joined-bits-requires-clause-bits
joined-bits-requires-clause-bits c =
    let room : 4 * c.fours.k ≤ length c.args.a.now = omega (arith, c.fours-test.true) in
    set-lt (4 * c.fours.k) c.fours.bits c.args.a.now c.args.b.now c.fours.invariant room (omega (arith, room, c.requires.same))

pub fours-preserved : goal.fours-preserved
fours-preserved c =
    let room : 4 * c.fours.k ≤ length c.args.a.now = omega (arith, c.fours-test.true) in
    set-more (4 * c.fours.k) 4 (4 * (c.fours.k + 1)) c.fours.bits c.four.result c.joined-bits.result c.args.a.now c.args.b.now
    c.fours.invariant c.four.ensures.value c.joined-bits.ensures (omega arith) room (omega (arith, room, c.requires.same))

pub joined-bits-requires-in-rest-clause-bits : goal.joined-bits-requires-in-rest-clause-bits
joined-bits-requires-in-rest-clause-bits c =
    set-lt c.rest.k c.rest.bits c.args.a.now c.args.b.now c.rest.invariant (omega (arith, c.rest-test.true)) (omega (arith, c.rest-test.true, c.requires.same))

pub rest-preserved : goal.rest-preserved
rest-preserved c =
    let a = c.rest-test.true in
    let b : c.rest.k < length c.args.b.now = omega (arith, c.rest-test.true, c.requires.same) in
    set-more c.rest.k 1 (c.rest.k + 1) c.rest.bits _ c.joined-bits-in-rest.result c.args.a.now c.args.b.now
    c.rest.invariant (agreement_bits-one c.rest.k c.args.a.now c.args.b.now a b) c.joined-bits-in-rest.ensures refl (omega (arith, a)) (omega (arith, b))
