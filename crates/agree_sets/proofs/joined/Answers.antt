use Rattle.std.proofs.Common.{arith, ◌+◌, ap}
use Rattle.agree_sets.proofs.Masks.{above-fits, shift-exact}
use Rattle.agree_sets.proofs.joined.Goals as goal

pub overflow_add-result : goal.overflow_add-result
overflow_add-result c =
    let fits = above-fits c.args.bits c.args.at c.args.more c.args.width c.requires.bits c.requires.more c.requires.room in
    let e = shift-exact c.args.bits c.args.at c.args.more c.args.width c.requires.bits c.requires.more c.requires.room in
    record { fits = omega (arith, fits, e) }

pub returns : goal.returns
returns c = ap (λ n. c.args.bits + n) (shift-exact c.args.bits c.args.at c.args.more c.args.width c.requires.bits c.requires.more c.requires.room)
