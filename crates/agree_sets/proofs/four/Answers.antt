use Rattle.std.proofs.Common.{eqb, ap, ◌∙◌, arith, w32, ◌%◌, ◌^◌, ◌<◌, sym, subst, ℕ}
use lib.Lanes.{chunk, zip2, mask_l}
use Rattle.std.proofs.lemmas.Simd.{length-chunk, tops_compared, mask_l-mod, length-zip2}
use Rattle.agree_sets.proofs.Masks.{agreement_bits-lt}
use Rattle.agree_sets.proofs.four.Goals as goal

pub returns-clause-value : goal.returns-clause-value
returns-clause-value c =
    let xs = chunk c.args.at 4 c.args.a.now in
    let ys = chunk c.args.at 4 c.args.b.now in
    let long = length-chunk c.args.at 4 c.args.a.now c.requires.first in
    let long2 = length-chunk c.args.at 4 c.args.b.now c.requires.second in
    ap (λ ms. mask_l ms % 2 ^ 64) (tops_compared w32 eqb xs ys) ∙ mask_l-mod (zip2 eqb xs ys) 64 (omega (arith, length-zip2 eqb xs ys (long ∙ sym long2), long))

pub returns-clause-bound : goal.returns-clause-bound
returns-clause-bound c =
    let xs = chunk c.args.at 4 c.args.a.now in
    let ys = chunk c.args.at 4 c.args.b.now in
    let long = length-chunk c.args.at 4 c.args.a.now c.requires.first in
    let long2 = length-chunk c.args.at 4 c.args.b.now c.requires.second in
    let P : ℕ → Type 0 = λ n. n < 2 ^ 4 in
    subst P (sym (returns-clause-value c)) (agreement_bits-lt 4 xs ys long long2)
