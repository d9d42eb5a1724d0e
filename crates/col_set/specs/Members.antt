-- What `has` answers of each operation, and column sets told apart by it.
use Rattle.std.proofs.Common.{inl, inr, ◌≡◌, ℕ, ◌+◌, ◌-◌, ◌%◌, ◌^◌, ◌<◌, ◌≤◌, min, max, Bool, false, not, ◌&&◌, ◌||◌, eqb, ltb, sym, ap, ◌∙◌, arith}
use Rattle.std.specs.Prelude.{bit_and}
use Rattle.std.specs.Int.{bit_at}
use Rattle.std.proofs.lemmas.Nat.Bits.{bit_at-zero, bit_at_and, bit_at_or, bit_at_xor, bit_at-pow_same, bit_at-pow_other, bit_at_ones, bit_at_ones_above, bit_at-lt, same_from_bits, bit_at_above}
use Rattle.std.proofs.lemmas.Bool.{eq-eqb, ne_eqb, lt-ltb, le-ltb, cases_eq, cases_lt}
use Rattle.std.proofs.lemmas.Bool.Decides.{nat_tests}
use Rattle.col_set.specs.ColSet.{has, all, with, without, union, inter, minus}

eqb-max : (a b : ℕ) → a < 2 → b < 2 → eqb (max a b) 1 ≡ (eqb a 1 || eqb b 1)
eqb-max a b p q = grind (arith, nat_tests)

eqb-min : (a b : ℕ) → a < 2 → b < 2 → eqb (min a b) 1 ≡ (eqb a 1 && eqb b 1)
eqb-min a b p q = grind (arith, nat_tests)

eqb-less : (a b : ℕ) → a < 2 → b < 2 → eqb ((a + min a b) % 2) 1 ≡ (eqb a 1 && not (eqb b 1))
eqb-less a b p q = grind (arith, nat_tests)

eqb-same : (a b : ℕ) → a < 2 → b < 2 → eqb a 1 ≡ eqb b 1 → a ≡ b
eqb-same a b p q h = grind (arith, nat_tests)

pub has-empty : (k : ℕ) → has 0 k ≡ false
unfolding has
has-empty k = ap (λ (b : ℕ). eqb b 1) (bit_at-zero k)

pub has-all : (n k : ℕ) → has (all n) k ≡ ltb k n
unfolding has all
has-all n k = elim (cases_lt k n) as (λ _. eqb (bit_at (2 ^ n - 1) k) 1 ≡ ltb k n) [
  | inl h ↦ ap (λ (b : ℕ). eqb b 1) (bit_at_ones n k h) ∙ sym (lt-ltb k n h)
  | inr h ↦ ap (λ (b : ℕ). eqb b 1) (bit_at_ones_above n k h) ∙ sym (le-ltb k n h)
]

pub has-pow : (c k : ℕ) → has (2 ^ c) k ≡ eqb k c
unfolding has
has-pow c k = elim (cases_eq k c) as (λ _. eqb (bit_at (2 ^ c) k) 1 ≡ eqb k c) [
  | inl h ↦ ap (λ (b : ℕ). eqb b 1) (ap (bit_at (2 ^ c)) h ∙ bit_at-pow_same c) ∙ sym (eq-eqb k c h)
  | inr h ↦ ap (λ (b : ℕ). eqb b 1) (bit_at-pow_other c k h) ∙ sym (ne_eqb k c h)
]

pub has-union : (x y k : ℕ) → has (union x y) k ≡ (has x k || has y k)
unfolding has union
has-union x y k = ap (λ (b : ℕ). eqb b 1) (bit_at_or x y k) ∙ eqb-max _ _ (bit_at-lt x k) (bit_at-lt y k)

pub has-inter : (x y k : ℕ) → has (inter x y) k ≡ (has x k && has y k)
unfolding has inter
has-inter x y k = ap (λ (b : ℕ). eqb b 1) (bit_at_and x y k) ∙ eqb-min _ _ (bit_at-lt x k) (bit_at-lt y k)

pub has-minus : (x y k : ℕ) → has (minus x y) k ≡ (has x k && not (has y k))
unfolding has minus
has-minus x y k =
    ap (λ (b : ℕ). eqb b 1) (bit_at_xor x (bit_and x y) k ∙ ap (λ (b : ℕ). (bit_at x k + b) % 2) (bit_at_and x y k))
    ∙ eqb-less _ _ (bit_at-lt x k) (bit_at-lt y k)

pub has-with : (x c k : ℕ) → has (with x c) k ≡ (has x k || eqb k c)
unfolding union with
has-with x c k = has-union x (2 ^ c) k ∙ ap (λ (b : Bool). has x k || b) (has-pow c k)

pub has-without : (x c k : ℕ) → has (without x c) k ≡ (has x k && not (eqb k c))
unfolding minus without
has-without x c k = has-minus x (2 ^ c) k ∙ ap (λ (b : Bool). has x k && not b) (has-pow c k)

-- two sets with the same columns are equal
pub same_set : (x y : ℕ) → ((k : ℕ) → has x k ≡ has y k) → x ≡ y
unfolding has
same_set x y h = same_from_bits x y (λ k. eqb-same _ _ (bit_at-lt x k) (bit_at-lt y k) (h k))

-- a set of columns below n is a number below 2 ^ n
pub has_above : (x n k : ℕ) → x < 2 ^ n → n ≤ k → has x k ≡ false
unfolding has
has_above x n k h g = ap (λ (b : ℕ). eqb b 1) (bit_at_above x n k h g)

pub ruleset members = (has-empty, has-all, has-union, has-inter, has-minus, has-with, has-without)
