use Rattle.std.proofs.Common.{arith, ◌+◌, ap}
use Rattle.agree_sets.proofs.Masks.{above-fits_word, shift-exact_word}
use Rattle.agree_sets.proofs.joined_in_word.Goals as goal

pub overflow_add-result : goal.overflow_add-result
overflow_add-result c =
    let fits = above-fits_word c.args.bits c.args.at c.args.more 16 c.requires.bits c.requires.more c.requires.room in
    let e = shift-exact_word c.args.bits c.args.at c.args.more 16 c.requires.bits c.requires.more c.requires.room in
    record { fits = omega (arith, fits, e) }

pub returns : goal.returns
returns c = ap (λ n. c.args.bits + n) (shift-exact_word c.args.bits c.args.at c.args.more 16 c.requires.bits c.requires.more c.requires.room)
