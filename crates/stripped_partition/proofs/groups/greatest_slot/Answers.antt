use Rattle.std.proofs.Common.{◌≡◌, get_or, max, rules, ◌∙◌}
use Rattle.stripped_partition.proofs.Removing.{greatest-nil, slots_more}
use Rattle.stripped_partition.proofs.groups.greatest_slot.Goals as goal

pub loop-code-init : goal.loop-code-init
loop-code-init c = greatest-nil

pub loop-code-preserved : goal.loop-code-preserved
loop-code-preserved c =
    let slot = get_or c.args.slots.now (get_or c.args.codes.now c.loop-code.code-index 0) 0 in
    let e : c.max-most.result ≡ max c.loop-code.most slot = search rules in
    e ∙ slots_more (λ k. get_or c.args.slots.now k 0) c.args.codes.now c.loop-code.code-index c.loop-code.most c.loop-code-test.true c.loop-code.invariant
