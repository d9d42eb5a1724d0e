use Rattle.std.proofs.Common.{ℕ, ◌≡◌, ◌<◌, ◌≤◌, List, length, decimal, refl, ap, ◌∙◌, arith}
use Rattle.std.proofs.lemmas.Fmt.{length-decimal-le}
use Rattle.report_text.proofs.NumberTable.{filled-more}
use Rattle.report_text.proofs.number_texts.NumberTexts.new.Goals as goal

at_most_three : (n : ℕ) (digits : List ℕ) → n < 257 → digits ≡ decimal n → length digits ≤ 3
at_most_three n digits small is = let short = length-decimal-le 3 n (omega arith) (omega arith) (omega arith) in omega (arith, ap length is)

pub loop-number-init : goal.loop-number-init
loop-number-init c = record { texts_room = refl; counts_room = refl; each = λ k none. absurd (omega arith) }

pub padded-requires : goal.padded-requires
padded-requires c =
    let short = at_most_three c.loop-number.number _ c.loop-number-test.true (c.as_bytes-digits.ensures.value ∙ c.format.ensures.text) in
    omega arith

pub loop-number-preserved : goal.loop-number-preserved
loop-number-preserved c =
    let is = c.as_bytes-digits.ensures.value ∙ c.format.ensures.text in
    filled-more _ _ c.padded.result _ c.loop-number.number c.loop-number-test.true is (at_most_three _ _ c.loop-number-test.true is) c.padded.ensures c.loop-number.invariant

pub invariant_of-result : goal.invariant_of-result
invariant_of-result c = record { each = λ number small. c.loop-number.invariant.each number (let all = c.loop-number-test.false in omega arith) }
