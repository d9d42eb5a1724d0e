-- A subset has no more columns, and a proper one stands first in report order.
use Rattle.std.proofs.Common.{inl, inr, ◌≡◌, ℕ, ◌<◌, ◌≤◌, ◌^◌, Bool, true, false, cond, eqb, refl, sym, ap, ◌∙◌, arith, List, [], ◌∷◌, length, Less, Equal, Greater}
use Rattle.std.specs.List.{filter}
use Rattle.std.specs.Ordering.{nat_cmp, ordering_then}
use Rattle.std.specs.Cmp.Lexicographic.{slice_cmp}
use Rattle.std.proofs.lemmas.Bool.{true≢false, false≢true, cases_lt, le-ltb, ne_eqb}
use Rattle.col_set.specs.ColSet.{IsSubset, has, columns, size, report_cmp, upto}
use Rattle.col_set.specs.Columns.{nat_cmp-lt, columns_below, lt-pow}
use Rattle.col_set.specs.Lists.{Listed}
use Rattle.col_set.specs.AllSets.{Listed-upto}
use Rattle.col_set.specs.Subsets.{subset_below, has_within}

fewer : (p q : ℕ → Bool) (xs : List ℕ) → ((k : ℕ) → p k ≡ true → q k ≡ true) → length (filter p xs) ≤ length (filter q xs)
fewer p q [] f = omega arith
fewer p q (x ∷ xs) f = by (p x) (q x) (f x) (fewer p q xs f)
  where
    by : (a b : Bool) → (a ≡ true → b ≡ true) → length (filter p xs) ≤ length (filter q xs) → length (cond a (x ∷ filter p xs) (filter p xs)) ≤ length (cond b (x ∷ filter q xs) (filter q xs))
    by true true g h = omega arith
    by true false g h = absurd (false≢true (g refl))
    by false true g h = omega arith
    by false false g h = h

less : (p q : ℕ → Bool) (c : ℕ) (xs : List ℕ) → ((k : ℕ) → p k ≡ true → q k ≡ true) → Listed c xs → p c ≡ false → q c ≡ true → length (filter p xs) < length (filter q xs)
less p q c [] f h i j = absurd h
less p q c (x ∷ xs) f (inl e) i j = by (p x) (q x) (sym (ap p e) ∙ i) (sym (ap q e) ∙ j) (fewer p q xs f)
  where
    by : (a b : Bool) → a ≡ false → b ≡ true → length (filter p xs) ≤ length (filter q xs) → length (cond a (x ∷ filter p xs) (filter p xs)) < length (cond b (x ∷ filter q xs) (filter q xs))
    by false true g d h = omega arith
    by true b g d h = absurd (true≢false g)
    by false false g d h = absurd (false≢true d)
less p q c (x ∷ xs) f (inr h) i j = by (p x) (q x) (f x) (less p q c xs f h i j)
  where
    by : (a b : Bool) → (a ≡ true → b ≡ true) → length (filter p xs) < length (filter q xs) → length (cond a (x ∷ filter p xs) (filter p xs)) < length (cond b (x ∷ filter q xs) (filter q xs))
    by true true g h = omega arith
    by true false g h = absurd (false≢true (g refl))
    by false true g h = omega arith
    by false false g h = h

pub size-less : (n x y c : ℕ) → y < 2 ^ n → IsSubset x y → has x c ≡ false → has y c ≡ true → size x < size y
unfolding size
size-less n x y c b s i j =
    let d = ap length (columns_below n x (subset_below n s b)) in
    let e = ap length (columns_below n y b) in
    let l = less (has x) (has y) c (upto n) s.each (Listed-upto n c (has_within y n c b j)) i j in
    omega arith

-- a proper subset stands first in report order
pub report-inside : (n x y c : ℕ) → y < 2 ^ n → IsSubset x y → has x c ≡ false → has y c ≡ true → report_cmp x y ≡ Less
unfolding report_cmp
report-inside n x y c b s i j = ap (λ o. ordering_then o (slice_cmp nat_cmp (columns x) (columns y))) (nat_cmp-lt (size x) (size y) (size-less n x y c b s i j))

pub size-le : (x y : ℕ) → IsSubset x y → size x ≤ size y
unfolding size
size-le x y s =
    let d = ap length (columns_below y x (subset_below y s (lt-pow y))) in
    let e = ap length (columns_below y y (lt-pow y)) in
    let l = fewer (has x) (has y) (upto y) s.each in
    omega arith

-- ---- what an order says of the parts
pub nat_cmp-gt : (a b : ℕ) → b < a → nat_cmp a b ≡ Greater
nat_cmp-gt a b l = ap (λ t. cond t Less (cond (eqb a b) Equal Greater)) (le-ltb a b (omega arith)) ∙ ap (λ t. cond t Equal Greater) (let ne : a ≡ b → ⊥ = λ e. omega arith in ne_eqb a b ne)

pub size-in_order : (x y : ℕ) → report_cmp x y ≡ Less → size x ≤ size y
unfolding report_cmp
size-in_order x y e = elim (cases_lt (size y) (size x)) as (λ _. size x ≤ size y) [
  | inl l ↦ let g = ap (λ o. ordering_then o (slice_cmp nat_cmp (columns x) (columns y))) (nat_cmp-gt (size x) (size y) l) in absurd (other (sym g ∙ e))
  | inr l ↦ l
]
  where
    other : Greater ≡ Less → ⊥
    other g = cc
