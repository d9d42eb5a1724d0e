-- Decimal digits, one after another.
use Rattle.std.proofs.Common.{◌≡◌, ◌<◌, ◌≤◌, ◌+◌, ◌-◌, ◌*◌, ◌^◌, refl, arith, ℕ, List, true, length, length-take, get_or, take}
use Rattle.std.specs.Char.{digit_value, is_ascii_digit}
use Rattle.std.specs.List.{list_all}
use Rattle.std.specs.Str.Parse.{AllDigits, digits_value}
use Rattle.std.proofs.lemmas.Bool.{le-ltb, lt-ltb}
use Rattle.std.proofs.lemmas.Int.Digits.{digits_more, digits_value-lt, digits_value_more}
use Rattle.std.proofs.lemmas.List.Folds.{list_all_more}
use Rattle.std.proofs.Math.Nat.{pow-le-pow_right}

-- the value of a digit
pub digit_is : (c : ℕ) → 48 ≤ c → c ≤ 57 → digit_value c ≡ c - 48
digit_is c low high =
    let below : c < 58 = omega arith in
    rw (le-ltb c 48 low, lt-ltb c 58 below) refl

-- at most nine digits write a small number
pub nine_digits : (field : List ℕ) (i value : ℕ) → i < length field → length field ≤ 10 → AllDigits 10 (take i field)
    → value ≡ digits_value 10 (take i field) → value < 10 ^ 9
nine_digits field i value there short digits is =
    let below = digits_value-lt 10 (take i field) digits in
    let few : length (take i field) ≤ 9 = rw length-take (omega arith) in
    let most : 10 ^ length (take i field) ≤ 10 ^ 9 = pow-le-pow_right (omega arith) few in
    omega (arith, below, most, is)

-- what is known of the digits before a place
pub record DigitsTo (field : List ℕ) (i n : ℕ) : Type 0 where
  pub test : list_all is_ascii_digit (take i field) ≡ true
  pub digits : AllDigits 10 (take i field)
  pub value : n ≡ digits_value 10 (take i field)

-- one more digit
pub one_more_digit : (field : List ℕ) (i value byte : ℕ) → i < length field → byte ≡ get_or field i 0 → is_ascii_digit byte ≡ true → 48 ≤ byte → byte ≤ 57
    → DigitsTo field i value → DigitsTo field (i + 1) (value * 10 + (byte - 48))
one_more_digit field i value byte there is digit low high known =
    let worth = digit_is byte low high in
    record {
      test = rw (list_all_more is_ascii_digit field i 0 there, known.test, ← is) digit;
      digits = digits_more 10 field i there known.digits (rw (← is, worth) (omega arith));
      value = rw (digits_value_more 10 field i there, ← known.value, ← is, worth) refl;
    }
