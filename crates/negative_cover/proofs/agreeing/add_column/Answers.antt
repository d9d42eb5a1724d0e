use Rattle.std.proofs.Common.{◌≡◌, ◌+◌, ◌*◌, ◌^◌, ◌++◌, ◌∙◌, cond, eqb, ap, ap₂, arith, length, get_or, take, drop, ℕ, List}
use lib.Lanes.{chunk}
use Rattle.rel_base.specs.LentCodes.{lent}
use Rattle.negative_cover.proofs.Writing.{joined}
use Rattle.negative_cover.proofs.agreeing.add_column.Goals as goal

pub returns : goal.returns
returns c =
    let count = c.len.ensures in
    let first = lent c.between.result.0 in
    let second = c.between.result.1.now in
    let parts : first ++ second ≡ chunk c.args.start (length c.args.word.now) c.args.codes.now =
    c.between.ensures ∙ ap₂ (λ (n : ℕ) (codes : List ℕ). chunk c.args.start n codes) (omega arith) c.parts.ensures in
    joined c.args.start c.args.at c.args.code c.args.word.now c.args.codes.now first second c.add_lent.new.word c.add_equal.new.word parts c.requires.room
    (let a = c.add_lent.auto.word in let b = c.split_at_mut-low.ensures.front_len in omega arith)
    (λ k l. c.add_lent.ensures k l ∙ ap (λ (word : List ℕ). get_or word k 0 + 2 ^ c.args.at * cond (eqb (get_or first k 0) c.args.code) 1 0) (c.split_at_mut-low.ensures.front ∙ ap (λ (n : ℕ). take n c.args.word.now) count))
    (λ k l. c.add_equal.ensures k 0 l ∙ ap (λ (word : List ℕ). get_or word k 0 + 2 ^ c.args.at * cond (eqb (get_or second k 0) c.args.code) 1 0) (c.split_at_mut-low.ensures.back ∙ ap (λ (n : ℕ). drop n c.args.word.now) count))
