-- Row numbers are plain decimals.
use Rattle.std.proofs.Common.{◌≡◌, ◌≢◌, ◌<◌, ◌&&◌, ◌∙◌, ap, refl, sym, arith, ℕ, Bool, true, false, not, cond, nat_le, nat_eq, List, [], ◌∷◌, ◌^◌, length, get_or, Some, None, rules}
use Rattle.std.specs.Char.{is_ascii_digit}
use Rattle.std.specs.Fmt.{decimal}
use Rattle.std.specs.List.{list_all}
use Rattle.std.specs.Str.Parse.{digits_value}
use Rattle.std.proofs.lemmas.Bool.{eqb-false, leb-true, le-leb, ne_eqb}
use Rattle.std.proofs.lemmas.Fmt.{decimal-digits_value, digits_decimal, digits_value-decimal, first_decimal, length-decimal-le}
use Rattle.std.proofs.lemmas.Str.Parse.{IsNumeralModel, numerals_by_value}
use Rattle.batch_update.specs.Laws.{IsRowNumber, RowsAreNamedInDecimal}
use Rattle.batch_update.specs.RowNumber.{numbered, numbered_where, row_number}

-- the tests that the definition makes are those of digits and of their value
own : IsNumeralModel (λ ds. list_all is_ascii_digit ds ≡ true) (digits_value 10)
own = numerals_by_value (λ ds. list_all is_ascii_digit ds ≡ true) (search rules)

some_digits : (field : List ℕ) → 0 < digits_value 10 field → 0 < length field
some_digits [] h = absurd (omega arith)
some_digits (c ∷ cs) h = omega arith

numbered_is : (value n : ℕ) → numbered value ≡ Some n → (value ≡ n) × IsRowNumber n
numbered_is value n = by (nat_le 1 value) (nat_le value 4294967295) refl refl
  where
    by : (some few : Bool) → nat_le 1 value ≡ some → nat_le value 4294967295 ≡ few → cond (some && few) (Some value) None ≡ Some n → (value ≡ n) × IsRowNumber n
    by true true s f e =
        let same : value ≡ n = cc in
        let low = leb-true 1 value s in
        let high = leb-true value 4294967295 f in
        (same, (omega (arith, same, low), omega (arith, same, high)))
    by true false s f e = absurd (cc)
    by false few s f e = absurd (cc)

pub named : (field : List ℕ) (n : ℕ) → row_number field ≡ Some n → (field ≡ decimal n) × IsRowNumber n
named field n = by (nat_le (length field) 10) (nat_eq (get_or field 0 0) 48) (list_all is_ascii_digit field) refl refl refl
  where
    by : (short zero digits : Bool) → nat_le (length field) 10 ≡ short → nat_eq (get_or field 0 0) 48 ≡ zero → list_all is_ascii_digit field ≡ digits
        → cond (short && not zero) (numbered_where (cond digits (Some (digits_value 10 field)) None)) None ≡ Some n
        → (field ≡ decimal n) × IsRowNumber n
    by true false true s z d e =
        let is = numbered_is (digits_value 10 field) n e in
        let some = some_digits field (omega (arith, is.0, is.1.0)) in
        let small : digits_value 10 field < 2 ^ 64 = omega (arith, is.0, is.1.1) in
        let written = decimal-digits_value own field d some (λ zeros. absurd (eqb-false (get_or field 0 0) 48 z zeros)) small in
        (sym written ∙ ap decimal is.0, is.1)
    by true false false s z d e = absurd (cc)
    by true true digits s z d e = absurd (cc)
    by false zero digits s z d e = absurd (cc)

pub read_back : (n : ℕ) → IsRowNumber n → row_number (decimal n) ≡ Some n
read_back n h =
    let small : n < 2 ^ 64 = omega (arith, h.1) in
    let few = length-decimal-le 10 n (omega arith) (omega (arith, h.1)) small in
    let first = first_decimal n h.0 small in
    let no_zero : get_or (decimal n) 0 0 ≢ 48 = λ e. omega (arith, first, e) in
    rw (
      le-leb (length (decimal n)) 10 few,
      ne_eqb (get_or (decimal n) 0 0) 48 no_zero,
      digits_decimal own n small,
      digits_value-decimal own n small,
      le-leb 1 n h.0,
      le-leb n 4294967295 h.1,
    ) refl

pub rows_are_named_in_decimal : RowsAreNamedInDecimal
rows_are_named_in_decimal field n = (named field n, λ h. rw h.0 (read_back n h.1))
