use Rattle.std.proofs.Common.{◌<◌, ◌+◌, ◌^◌, ◌∙◌, sym, subst, arith, length, get_or, ℕ}
use Rattle.negative_cover.proofs.AgreeBits.{below_all, agree_bits-lt, agree_bits-word, agree_bits-whole}
use Rattle.negative_cover.proofs.agreeing.write_agreement.Goals as goal

pub add_word-requires-clause-below : goal.add_word-requires-clause-below
add_word-requires-clause-below c =
    let w = c.loop-from.invariant.within in
    below_all (2 ^ c.loop-from.from) c.loop-from.sets (λ k l. subst (λ (n : ℕ). n < 2 ^ c.loop-from.from) (sym (c.loop-from.invariant.written k l))
    (agree_bits-lt c.args.snapshot.now (c.args.first + k) c.args.other 0 c.loop-from.from (omega arith)))

pub loop-from-preserved : goal.loop-from-preserved
loop-from-preserved c =
    let t = c.loop-from-test.true in
    let v = c.columns.ensures.value in
    let m = c.min-to.ensures in
    let w = c.columns-in-loop-from.ensures.value in
    let a = c.add_word.auto.sets in
    let b = c.write_word.auto.word in
    let d = c.loop-from.auto.sets in
    let e = c.loop-from.auto.word in
    let f = c.fill.ensures.len in
    let g = c.requires.same in
    let h = c.loop-from.invariant.whole (omega arith) in
    record {
      within = omega arith;
      whole = λ l. omega arith;
      written = λ k l.
          let near : k < length c.loop-from.sets = omega arith in
          let old : k < length c.loop-from.word = omega arith in
          let new : k < length c.write_word.new.word = omega arith in
          agree_bits-word c.args.snapshot.now (c.args.first + k) c.args.other c.loop-from.from c.min-to.result (get_or c.loop-from.sets k 0) (get_or c.write_word.new.word k 0) (get_or c.add_word.new.sets k 0)
          (omega arith) (omega arith) (c.loop-from.invariant.written k near) (c.write_word.ensures k old) (c.add_word.ensures k new);
    }

pub returns : goal.returns
returns c =
    let t = c.loop-from-test.false in
    let v = c.columns.ensures.value in
    let d = c.loop-from.auto.sets in
    let f = c.fill.ensures.len in
    λ k l. c.loop-from.invariant.written k (omega arith) ∙ agree_bits-whole c.args.snapshot.now (c.args.first + k) c.args.other c.loop-from.from (omega arith)
