use Rattle.std.proofs.Common.{arith, get_or, sym, ◌∙◌, refl}
use Rattle.batch_update.proofs.Digits.{nine_digits, one_more_digit}
use Rattle.cover_cert.proofs.fields.value_of.Goals as goal

pub overflow_mul-value : goal.overflow_mul-value
overflow_mul-value c =
    let below = nine_digits c.args.field.now c.loop-byte.byte-index c.loop-byte.value c.loop-byte-test.true c.requires c.loop-byte.invariant.digits c.loop-byte.invariant.value in
    omega (arith, below)

pub overflow_add-value : goal.overflow_add-value
overflow_add-value c =
    let below = nine_digits c.args.field.now c.loop-byte.byte-index c.loop-byte.value c.loop-byte-test.true c.requires c.loop-byte.invariant.digits c.loop-byte.invariant.value in
    omega (arith, below, c.from.ensures, c.if-not-is_ascii_digit.ensures.cases.1)

pub loop-byte-preserved : goal.loop-byte-preserved
loop-byte-preserved c =
    rw c.from.ensures (one_more_digit c.args.field.now c.loop-byte.byte-index c.loop-byte.value (get_or c.args.field.now c.loop-byte.byte-index 0) c.loop-byte-test.true refl
    (sym c.is_ascii_digit.ensures.value ∙ c.if-not-is_ascii_digit.false) c.if-not-is_ascii_digit.ensures.cases.0 c.if-not-is_ascii_digit.ensures.cases.1 c.loop-byte.invariant)
