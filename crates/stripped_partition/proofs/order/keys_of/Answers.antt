use Rattle.std.proofs.Common.{◌+◌, ◌*◌, ◌^◌, ℕ, ap, ◌∙◌, arith}
use Rattle.stripped_partition.specs.Groups.{cut}
use Rattle.stripped_partition.proofs.Cuts.{few_ends}
use Rattle.stripped_partition.proofs.OrderLoops.{keys_more}
use Rattle.stripped_partition.proofs.order.keys_of.Goals as goal

pub overflow_add-number : goal.overflow_add-number
overflow_add-number c =
    let g = c.args.groups.now in
    let n = c.number.type_inv in
    let f = few_ends g.rows.items g.ends.items c.requires in
    let s = c.requires.short in
    let e = c.len-k-end.ensures in
    let l = c.loop-k-test.true in
    record { fits = omega (arith, g.ends.ok.0) }

pub loop-k-preserved : goal.loop-k-preserved
loop-k-preserved c =
    let g = c.args.groups.now in
    c.in_ok-push.ensures.items
    ∙ keys_more (cut 0 g.rows.items g.ends.items) c.loop-k.keys.items c.loop-k.k (c.number.result * 2 ^ 32 + c.loop-k.k) c.loop-k.invariant (ap (λ (n : ℕ). n * 2 ^ 32 + c.loop-k.k) (c.number.ensures.value ∙ c.first_of.ensures))
