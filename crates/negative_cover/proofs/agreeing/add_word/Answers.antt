use Rattle.std.proofs.Common.{◌<◌, ◌+◌, ◌*◌, ◌%◌, ◌^◌, ap₂, sym, subst, arith, length, get_or, ℕ}
use Rattle.std.proofs.Math.Facts.{Fits-lt-pow, Fits-of_lt}
use Rattle.negative_cover.proofs.Writing.{written_more, kept_more, word_fits, word_exact}
use Rattle.negative_cover.proofs.agreeing.add_word.Goals as goal

pub overflow_add-sets : goal.overflow_add-sets
overflow_add-sets c =
    let within : c.loop-k.k < length c.args.sets.now = (let t = c.loop-k-test.true in let s = c.requires.same in omega arith) in
    let below : get_or c.loop-k.sets c.loop-k.k 0 < 2 ^ c.args.from = subst (λ (n : ℕ). n < 2 ^ c.args.from) (sym (c.loop-k.invariant.kept c.loop-k.k (omega arith))) (c.requires.below c.loop-k.k 0 within) in
    Fits-of_lt (word_fits (get_or c.loop-k.sets c.loop-k.k 0) c.args.from (get_or c.args.word.now c.loop-k.k 0) below (Fits-lt-pow (c.type_inv.word c.loop-k.k)) (let r = c.requires.room in omega arith))

pub loop-k-preserved : goal.loop-k-preserved
loop-k-preserved c =
    let within : c.loop-k.k < length c.args.sets.now = (let t = c.loop-k-test.true in let s = c.requires.same in omega arith) in
    let same = c.loop-k.invariant.kept c.loop-k.k (omega arith) in
    let below : get_or c.loop-k.sets c.loop-k.k 0 < 2 ^ c.args.from = subst (λ (n : ℕ). n < 2 ^ c.args.from) (sym same) (c.requires.below c.loop-k.k 0 within) in
    let exact = word_exact (get_or c.loop-k.sets c.loop-k.k 0) c.args.from (get_or c.args.word.now c.loop-k.k 0) below (Fits-lt-pow (c.type_inv.word c.loop-k.k)) (let r = c.requires.room in omega arith) in
    let x = get_or c.loop-k.sets c.loop-k.k 0 + get_or c.args.word.now c.loop-k.k 0 * 2 ^ c.args.from % 2 ^ 128 in
    record {
      written = written_more c.loop-k.k x c.loop-k.sets (λ (i : ℕ). get_or c.args.sets.now i 0 + 2 ^ c.args.from * get_or c.args.word.now i 0)
          (let a = c.loop-k.auto.sets in omega arith) c.loop-k.invariant.written (ap₂ (λ (a b : ℕ). a + b) same exact);
      kept = kept_more c.loop-k.k x c.loop-k.sets c.args.sets.now c.loop-k.invariant.kept;
    }
