use Rattle.std.proofs.Common.{ℕ, ◌<◌, ◌≤◌, ◌^◌, sym, subst, arith}
use Rattle.bcnf_split.proofs.PlainSplit.{tried_all}
use Rattle.bcnf_split.proofs.tests.plain.first_violation.Goals as goal

pub returns : goal.returns
returns c r e w b =
    let l = c.loop-bits-test.false in
    let all_tried : 2 ^ c.args.n ≤ c.loop-bits.bits = omega (arith, c.set_count-bits-end.ensures) in
    tried_all r c.args.s c.loop-bits.bits c.loop-bits.first (c.loop-bits.invariant r e w b) (subst (λ (m : ℕ). 2 ^ m ≤ c.loop-bits.bits) (sym w) all_tried) (subst (λ (m : ℕ). c.args.s < 2 ^ m) (sym w) b)
