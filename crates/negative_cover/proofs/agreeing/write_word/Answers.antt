use Rattle.std.proofs.Common.{◌<◌, ◌+◌, ◌-◌, ◌^◌, refl, sym, subst, arith, length, get_or, ℕ}
use Rattle.negative_cover.proofs.AgreeBits.{below_all, agree_bits-lt, agree_word-more}
use Rattle.negative_cover.proofs.agreeing.write_word.Goals as goal

pub add_column-requires-clause-below : goal.add_column-requires-clause-below
add_column-requires-clause-below c =
    let bound = 2 ^ (c.loop-column.column - c.args.from) in
    let o = c.loop-column.invariant.order in
    let t = c.loop-column-test.true in
    let r = c.requires.columns in
    below_all bound c.loop-column.word (λ k l. subst (λ (n : ℕ). n < bound) (sym (c.loop-column.invariant.written k l))
    (agree_bits-lt c.args.snapshot.now (c.args.first + k) c.args.other c.args.from (c.loop-column.column - c.args.from) (omega arith)))

pub loop-column-preserved : goal.loop-column-preserved
loop-column-preserved c =
    let o = c.loop-column.invariant.order in
    let t = c.loop-column-test.true in
    let r = c.requires.columns in
    let v = c.number.ensures.value in
    let p = c.number.ensures.positive in
    let same = c.add_column.auto.word in
    record {
      order = omega arith;
      written = λ k l.
          let within : k < length c.loop-column.word = omega arith in
          agree_word-more c.args.snapshot.now c.args.first k c.args.other c.args.from c.loop-column.column (c.number.result - 1) (c.loop-column.column - c.args.from) c.code-code.result
          (get_or c.loop-column.word k 0) (get_or c.add_column.new.word k 0) c.column.result.now c.column.ensures.value c.code-code.ensures (omega arith) refl o (omega arith)
          (c.loop-column.invariant.written k within) (c.add_column.ensures k within);
    }
