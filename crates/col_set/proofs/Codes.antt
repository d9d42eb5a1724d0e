-- What the code computes, in the words of `specs/ColSet.antt`.
use Rattle.std.proofs.Common.{◌≡◌, ◌≢◌, ℕ, ◌+◌, ◌-◌, ◌*◌, ◌/◌, ◌%◌, ◌^◌, ◌<◌, min, true, false, not, cond, eqb, refl, sym, ap, ap₂, ◌∙◌, arith, length, Some, None, Ordering, Less, Equal, Greater, slice_get}
use Rattle.std.specs.Prelude.{bit_and, bit_or, bit_xor}
use Rattle.std.specs.Int.{bit_at, bit_not, trailing_zeros, w128}
use Rattle.std.specs.Int.Count.{ones, count_trailing_zeros}
use Rattle.std.specs.Ordering.{nat_cmp, ordering_then, ordering_reverse, ordering_index}
use Rattle.std.specs.Cmp.Lexicographic.{slice_cmp}
use Rattle.std.proofs.lemmas.Nat.{one_shl, pow_below, xor_lt, and_le_l}
use Rattle.std.proofs.lemmas.Nat.Bits.{shr_and_one, bit_at-zero, bit_at_and, bit_at_xor, bit_at_not, bit_at-lt, same_from_bits_below, bit_at-trailing_zeros}
use Rattle.std.proofs.lemmas.Bool.{eq-eqb, ne_eqb, true≢false}
use Rattle.std.proofs.lemmas.Bool.Decides.{nat_tests}
use Rattle.std.proofs.lemmas.Cmp.{tied_itself}
use Rattle.col_set.specs.ColSet.{has, columns, size, first, report_cmp, with, without, minus}
use Rattle.col_set.specs.Columns.{first_passing, least_difference, columns_below, report_total, size-ones}
use Rattle.col_set.specs.Members.{same_set}

pub shifted_one : (c : ℕ) → c < 128 → 1 * 2 ^ c % 2 ^ 128 ≡ 2 ^ c
shifted_one c h = one_shl c 128 h

pub with_is : (x c : ℕ) → c < 128 → bit_or x (1 * 2 ^ c % 2 ^ 128) ≡ with x c
unfolding with
with_is x c h = ap (bit_or x) (shifted_one c h)

less : (a b : ℕ) → a < 2 → b < 2 → min a (1 - b) ≡ (a + min a b) % 2
less a b p q = grind arith

pub minus_is : (x y : ℕ) → x < 2 ^ 128 → y < 2 ^ 128 → bit_and x (2 ^ 128 - 1 - y) ≡ minus x y
unfolding minus
minus_is x y p q = same_from_bits_below 128 _ _ (let l = and_le_l x (2 ^ 128 - 1 - y) in omega arith) (xor_lt 128 x (bit_and x y) p (let l = and_le_l x y in omega arith)) (λ i h.
    bit_at_and x (bit_not w128 y) i ∙ ap (min (bit_at x i)) (bit_at_not w128 y i q h) ∙ less _ _ (bit_at-lt x i) (bit_at-lt y i)
    ∙ sym (bit_at_xor x (bit_and x y) i ∙ ap (λ (b : ℕ). (bit_at x i + b) % 2) (bit_at_and x y i)))

pub without_is : (x c : ℕ) → x < 2 ^ 128 → c < 128 → bit_and x (2 ^ 128 - 1 - 1 * 2 ^ c % 2 ^ 128) ≡ without x c
unfolding without minus
without_is x c p h = ap (λ (b : ℕ). bit_and x (2 ^ 128 - 1 - b)) (shifted_one c h) ∙ minus_is x (2 ^ c) p (pow_below c 128 h)

pub first-zero : first 0 ≡ None
unfolding first columns
first-zero = refl

eqb-one : (b : ℕ) → b ≡ 0 → eqb b 1 ≡ false
eqb-one b e = grind (arith, nat_tests)

pub first_is : (x : ℕ) → 0 < x → x < 2 ^ 128 → Some (count_trailing_zeros 128 x) ≡ first x
unfolding first has
first_is x p h = let t = bit_at-trailing_zeros w128 x p h in
    sym (ap (λ xs. slice_get xs 0) (columns_below 128 x h) ∙ first_passing (has x) 128 0 (trailing_zeros w128 x) (omega arith) t.0 (eq-eqb _ 1 t.1) (λ k i j. eqb-one _ (t.2 k j)))

-- the least differing bit
sum_even : (a b : ℕ) → a < 2 → b < 2 → (a + b) % 2 ≡ 0 → a ≡ b
sum_even a b p q e = grind arith

sum_odd : (a b : ℕ) → a < 2 → b < 2 → (a + b) % 2 ≡ 1 → eqb b 1 ≡ cond (eqb a 1) false true
sum_odd a b p q e = grind (arith, nat_tests)

pub record Differ (x y t : ℕ) : Type 0 where
  pub within : t < 128
  pub below : (k : ℕ) → k < t → has x k ≡ has y k
  pub at : has y t ≡ cond (has x t) false true

pub differ_from_xor : (x y : ℕ) → 0 < bit_xor x y → x < 2 ^ 128 → y < 2 ^ 128 → Differ x y (count_trailing_zeros 128 (bit_xor x y))
unfolding has
differ_from_xor x y n p q = let t = bit_at-trailing_zeros w128 (bit_xor x y) n (xor_lt 128 x y p q) in record {
  within = t.0;
  below = λ k h. ap (λ (b : ℕ). eqb b 1) (sum_even _ _ (bit_at-lt x k) (bit_at-lt y k) (sym (bit_at_xor x y k) ∙ t.2 k h));
  at = sum_odd _ _ (bit_at-lt x _) (bit_at-lt y _) (sym (bit_at_xor x y _) ∙ t.1);
}

pub same_from_xor : (x y : ℕ) → bit_xor x y ≡ 0 → x ≡ y
unfolding has
same_from_xor x y e = same_set x y (λ k. ap (λ (b : ℕ). eqb b 1) (sum_even _ _ (bit_at-lt x k) (bit_at-lt y k) (sym (bit_at_xor x y k) ∙ ap (λ (z : ℕ). bit_at z k) e ∙ bit_at-zero k)))

-- the report order by sizes that differ, at the same set, and by the least difference
pub report-by_size : (x y : ℕ) → x < 2 ^ 128 → y < 2 ^ 128 → (o : Ordering) → o ≡ nat_cmp (ones x) (ones y) → (o ≢ Equal) → o ≡ report_cmp x y
unfolding report_cmp
report-by_size x y p q o e ne = by o ne (e ∙ ap₂ nat_cmp (sym (size-ones x p)) (sym (size-ones y q)))
  where
    by : (o : Ordering) → (o ≢ Equal) → o ≡ nat_cmp (size x) (size y) → o ≡ ordering_then (nat_cmp (size x) (size y)) (slice_cmp nat_cmp (columns x) (columns y))
    by Less ne e = ap (λ r. ordering_then r (slice_cmp nat_cmp (columns x) (columns y))) e
    by Equal ne e = absurd (ne refl)
    by Greater ne e = ap (λ r. ordering_then r (slice_cmp nat_cmp (columns x) (columns y))) e

pub report-same : (x y : ℕ) → bit_xor x y ≡ 0 → Equal ≡ report_cmp x y
report-same x y e = sym (tied_itself report_total x) ∙ ap (report_cmp x) (same_from_xor x y e)

nat_cmp-same : (a b : ℕ) → nat_cmp a b ≡ Equal → a ≡ b
nat_cmp-same a b e = grind (arith, nat_tests)

-- with a variable for the number of bits, since a range of 128 numbers is long to compute
columns-less : (n x y t : ℕ) → x < 2 ^ n → y < 2 ^ n → t < n → ((k : ℕ) → k < t → has x k ≡ has y k) → has x t ≡ true → has y t ≡ false → length (columns x) ≡ length (columns y)
    → slice_cmp nat_cmp (columns x) (columns y) ≡ Less
columns-less n x y t p q l below hit miss same =
    ap₂ (slice_cmp nat_cmp) (columns_below n x p) (columns_below n y q)
    ∙ least_difference (has x) (has y) n 0 t (omega arith) (omega arith) below hit miss (sym (ap length (columns_below n x p)) ∙ same ∙ ap length (columns_below n y q))

pub report-less : (x y t : ℕ) → x < 2 ^ 128 → y < 2 ^ 128 → nat_cmp (ones x) (ones y) ≡ Equal → Differ x y t → has x t ≡ true → Less ≡ report_cmp x y
unfolding report_cmp size
report-less x y t p q e d h =
    let same : length (columns x) ≡ length (columns y) = size-ones x p ∙ nat_cmp-same _ _ e ∙ sym (size-ones y q) in
    sym (ap (λ r. ordering_then r (slice_cmp nat_cmp (columns x) (columns y))) (ap₂ nat_cmp (size-ones x p) (size-ones y q) ∙ e)
    ∙ columns-less 128 x y t p q d.within d.below h (d.at ∙ ap (λ b. cond b false true) h) same)

turned : (x y t : ℕ) → Differ x y t → has x t ≡ false → has y t ≡ true
turned x y t d h = d.at ∙ ap (λ b. cond b false true) h

pub report-greater : (x y t : ℕ) → x < 2 ^ 128 → y < 2 ^ 128 → nat_cmp (ones x) (ones y) ≡ Equal → Differ x y t → has x t ≡ false → Greater ≡ report_cmp x y
report-greater x y t p q e d h =
    let back : nat_cmp (ones y) (ones x) ≡ Equal = ap (nat_cmp (ones y)) (nat_cmp-same _ _ e) ∙ tied y in
    let hit : has y t ≡ true = turned x y t d h in
    ap ordering_reverse (report-less y x t q p back (record { within = d.within; below = λ k i. sym (d.below k i); at = h ∙ sym (ap (λ b. cond b false true) hit) }) hit)
    ∙ sym (report_total.antisymm x y)
  where
    tied : (y : ℕ) → nat_cmp (ones y) (ones y) ≡ Equal
    tied y = grind (arith, nat_tests)

-- what the code's `!= Ordering::Equal` tells
pub not_equal : (o : Ordering) → true ≡ not (eqb (ordering_index o) 1) → o ≢ Equal
not_equal o e h = true≢false (e ∙ ap (λ r. not (eqb (ordering_index r) 1)) h)

pub is_equal : (o : Ordering) → false ≡ not (eqb (ordering_index o) 1) → o ≡ Equal
is_equal Less e = absurd (true≢false (sym e))
is_equal Equal e = refl
is_equal Greater e = absurd (true≢false (sym e))

-- what the code's `(x >> t) & 1 == 1` tells
pub has_from_shift : (x t : ℕ) → bit_and (x / 2 ^ t) 1 ≡ 1 → has x t ≡ true
unfolding has
has_from_shift x t e = eq-eqb (bit_at x t) 1 (sym (shr_and_one x t) ∙ e)

pub lacks_from_shift : (x t : ℕ) → (bit_and (x / 2 ^ t) 1 ≡ 1 → ⊥) → has x t ≡ false
unfolding has
lacks_from_shift x t e = ne_eqb (bit_at x t) 1 (λ g. e (shr_and_one x t ∙ g))
