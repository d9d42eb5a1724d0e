-- The ascending list of columns: filters of a range of numbers, and what the first difference of two sets says of their order.
use Rattle.std.proofs.Common.{inl, inr, ◌≡◌, ℕ, zero, suc, ◌+◌, ◌-◌, ◌/◌, ◌%◌, ◌^◌, ◌<◌, ◌≤◌, Bool, true, false, cond, eqb, refl, sym, ap, ◌∙◌, arith, List, [], ◌∷◌, length, slice_get, Some, Less, Equal, Greater, add-one, zero-add}
use Rattle.std.specs.Int.{bit_at}
use Rattle.std.specs.Int.Count.{ones}
use Rattle.std.specs.List.{filter, range_with_len}
use Rattle.std.specs.Ordering.{nat_cmp, ordering_then}
use Rattle.std.specs.Cmp.{IsTotalOrder}
use Rattle.std.specs.Cmp.Lexicographic.{slice_cmp}
use Rattle.std.proofs.lemmas.Bool.{lt-ltb, cases_eq, cases_lt, true≢false, false≢true}
use Rattle.std.proofs.lemmas.Cmp.{then_total, on_total, nat_cmp_total, nat_list_cmp_total, tied_itself}
use Rattle.std.proofs.lemmas.Nat.Bits.{bit_at-suc, bit_at_lowest, bit_at-lt}
use Rattle.col_set.specs.ColSet.{has, upto, columns, size, report_cmp}
use Rattle.col_set.specs.Members.{has_above}
use Rattle.std.proofs.Math.Nat.{pow-suc, suc-add}
use lib.Count.{ones_step}

pub report_total : IsTotalOrder report_cmp
unfolding report_cmp
report_total = then_total (on_total size nat_cmp_total) (on_total columns nat_list_cmp_total)

nat_cmp-itself : (a : ℕ) → nat_cmp a a ≡ Equal
nat_cmp-itself a = tied_itself nat_cmp_total a

pub nat_cmp-lt : (a b : ℕ) → a < b → nat_cmp a b ≡ Less
nat_cmp-lt a b h = ap (λ t. cond t Less (cond (eqb a b) Equal Greater)) (lt-ltb a b h)

-- the first number that passes
pub first_passing : (p : ℕ → Bool) (n a t : ℕ) → a ≤ t → t < a + n → p t ≡ true → ((k : ℕ) → a ≤ k → k < t → p k ≡ false) → slice_get (filter p (range_with_len a n)) 0 ≡ Some t
first_passing p zero a t l h hit miss = absurd (omega arith)
first_passing p (suc n) a t l h hit miss = elim (cases_eq a t) as (λ _. slice_get (filter p (range_with_len a (suc n))) 0 ≡ Some t) [
  | inl e ↦ ap (λ b. slice_get (cond b (a ∷ filter p (range_with_len (a + 1) n)) (filter p (range_with_len (a + 1) n))) 0) (ap p e ∙ hit) ∙ ap Some e
  | inr ne ↦ ap (λ b. slice_get (cond b (a ∷ filter p (range_with_len (a + 1) n)) (filter p (range_with_len (a + 1) n))) 0) (miss a (omega arith) (omega arith))
      ∙ first_passing p n (a + 1) t (omega arith) (omega arith) hit (λ k i j. miss k (omega arith) j)
]

pub none_passes : (p : ℕ → Bool) (n a : ℕ) → ((k : ℕ) → p k ≡ false) → filter p (range_with_len a n) ≡ []
none_passes p zero a miss = refl
none_passes p (suc n) a miss = ap (λ b. cond b (a ∷ filter p (range_with_len (a + 1) n)) (filter p (range_with_len (a + 1) n))) (miss a) ∙ none_passes p n (a + 1) miss

-- a number below all that pass stands first
pub before_passing : (q : ℕ → Bool) (n b a : ℕ) (ys : List ℕ) → a < b → 0 < length (filter q (range_with_len b n)) → slice_cmp nat_cmp (a ∷ ys) (filter q (range_with_len b n)) ≡ Less
before_passing q zero b a ys l h = absurd (omega arith)
before_passing q (suc n) b a ys l h = by (q b) refl h (λ g. before_passing q n (b + 1) a ys (omega arith) g)
  where
    by : (t : Bool) → q b ≡ t → 0 < length (cond t (b ∷ filter q (range_with_len (b + 1) n)) (filter q (range_with_len (b + 1) n)))
        → (0 < length (filter q (range_with_len (b + 1) n)) → slice_cmp nat_cmp (a ∷ ys) (filter q (range_with_len (b + 1) n)) ≡ Less)
        → slice_cmp nat_cmp (a ∷ ys) (cond t (b ∷ filter q (range_with_len (b + 1) n)) (filter q (range_with_len (b + 1) n))) ≡ Less
    by true e g rest = ap (λ o. ordering_then o (slice_cmp nat_cmp ys (filter q (range_with_len (b + 1) n)))) (nat_cmp-lt a b l)
    by false e g rest = rest g

-- Of two sets with as many columns, the one that has the least column in which they differ stands first.
pub least_difference : (p q : ℕ → Bool) (n a t : ℕ) → a ≤ t → t < a + n → ((k : ℕ) → k < t → p k ≡ q k) → p t ≡ true → q t ≡ false
    → length (filter p (range_with_len a n)) ≡ length (filter q (range_with_len a n)) → slice_cmp nat_cmp (filter p (range_with_len a n)) (filter q (range_with_len a n)) ≡ Less
least_difference p q zero a t l h same hit miss e = absurd (omega arith)
least_difference p q (suc n) a t l h same hit miss e = elim (cases_eq a t) as (λ _. slice_cmp nat_cmp (filter p (range_with_len a (suc n))) (filter q (range_with_len a (suc n))) ≡ Less) [
  | inl eq ↦ at_once (p a) (q a) (ap p eq ∙ hit) (ap q eq ∙ miss) e
  | inr ne ↦ later (p a) (q a) (same a (omega arith)) (λ g. least_difference p q n (a + 1) t (omega arith) (omega arith) same hit miss g) e
]
  where
    ps : List ℕ
    ps = filter p (range_with_len (a + 1) n)

    qs : List ℕ
    qs = filter q (range_with_len (a + 1) n)

    at_once : (u v : Bool) → u ≡ true → v ≡ false → length (cond u (a ∷ filter p (range_with_len (a + 1) n)) (filter p (range_with_len (a + 1) n))) ≡ length (cond v (a ∷ filter q (range_with_len (a + 1) n)) (filter q (range_with_len (a + 1) n)))
        → slice_cmp nat_cmp (cond u (a ∷ filter p (range_with_len (a + 1) n)) (filter p (range_with_len (a + 1) n))) (cond v (a ∷ filter q (range_with_len (a + 1) n)) (filter q (range_with_len (a + 1) n))) ≡ Less
    at_once true false i j g = before_passing q n (a + 1) a (filter p (range_with_len (a + 1) n)) (omega arith) (omega arith)
    at_once true true i j g = absurd (true≢false j)
    at_once false v i j g = absurd (false≢true i)

    later : (u v : Bool) → u ≡ v → (length (filter p (range_with_len (a + 1) n)) ≡ length (filter q (range_with_len (a + 1) n)) → slice_cmp nat_cmp (filter p (range_with_len (a + 1) n)) (filter q (range_with_len (a + 1) n)) ≡ Less)
        → length (cond u (a ∷ filter p (range_with_len (a + 1) n)) (filter p (range_with_len (a + 1) n))) ≡ length (cond v (a ∷ filter q (range_with_len (a + 1) n)) (filter q (range_with_len (a + 1) n)))
        → slice_cmp nat_cmp (cond u (a ∷ filter p (range_with_len (a + 1) n)) (filter p (range_with_len (a + 1) n))) (cond v (a ∷ filter q (range_with_len (a + 1) n)) (filter q (range_with_len (a + 1) n))) ≡ Less
    later true true i rest g = ap (λ o. ordering_then o (slice_cmp nat_cmp (filter p (range_with_len (a + 1) n)) (filter q (range_with_len (a + 1) n)))) (nat_cmp-itself a) ∙ rest (omega arith)
    later false false i rest g = rest g
    later true false i rest g = absurd (true≢false i)
    later false true i rest g = absurd (false≢true i)

-- ---- how many columns
has-half : (x k : ℕ) → has x (k + 1) ≡ has (x / 2) k
unfolding has
has-half x k = ap (λ (b : ℕ). eqb b 1) (ap (bit_at x) (add-one k) ∙ bit_at-suc x k)

length-half : (x n a : ℕ) → length (filter (has x) (range_with_len (a + 1) n)) ≡ length (filter (has (x / 2)) (range_with_len a n))
length-half x zero a = refl
length-half x (suc n) a = by (has x (a + 1)) (has (x / 2) a) (has-half x a) (length-half x n (a + 1))
  where
    by : (u v : Bool) → u ≡ v → length (filter (has x) (range_with_len (a + 1 + 1) n)) ≡ length (filter (has (x / 2)) (range_with_len (a + 1) n))
        → length (cond u ((a + 1) ∷ filter (has x) (range_with_len (a + 1 + 1) n)) (filter (has x) (range_with_len (a + 1 + 1) n))) ≡ length (cond v (a ∷ filter (has (x / 2)) (range_with_len (a + 1) n)) (filter (has (x / 2)) (range_with_len (a + 1) n)))
    by true true e r = ap suc r
    by false false e r = r
    by true false e r = absurd (true≢false e)
    by false true e r = absurd (false≢true e)

lowest : (x : ℕ) (xs : List ℕ) → length (cond (has x 0) (0 ∷ xs) xs) ≡ x % 2 + length xs
unfolding has
lowest x xs = let e : bit_at x 0 ≡ x % 2 = bit_at_lowest x in let l : bit_at x 0 < 2 = bit_at-lt x 0 in
    by (bit_at x 0) e l
  where
    by : (b : ℕ) → b ≡ x % 2 → b < 2 → length (cond (eqb b 1) (0 ∷ xs) xs) ≡ x % 2 + length xs
    by zero e l = omega arith
    by (suc zero) e l = omega arith
    by (suc (suc b)) e l = absurd (omega arith)

ones-zero : ones 0 ≡ 0
unfolding ones
ones-zero = refl

pub length-columns_below : (n x : ℕ) → x < 2 ^ n → length (filter (has x) (upto n)) ≡ ones x
length-columns_below zero x h = sym (ap ones (let e : x ≡ 0 = omega arith in e) ∙ ones-zero)
length-columns_below (suc n) x h =
    lowest x (filter (has x) (range_with_len 1 n)) ∙ ap (λ (m : ℕ). x % 2 + m) (length-half x n 0 ∙ length-columns_below n (x / 2) (halved x n h)) ∙ sym (ones_step x)
  where
    halved : (x n : ℕ) → x < 2 ^ suc n → x / 2 < 2 ^ n
    halved x n h = grind arith

-- ---- the columns of a set stand below any number above which it has none
pub lt-pow : (x : ℕ) → x < 2 ^ x
lt-pow zero = omega arith
lt-pow (suc x) = let h = lt-pow x in let e = pow-suc 2 x in omega arith

none_from : (p : ℕ → Bool) (n a : ℕ) → ((k : ℕ) → a ≤ k → p k ≡ false) → filter p (range_with_len a n) ≡ []
none_from p zero a miss = refl
none_from p (suc n) a miss = ap (λ b. cond b (a ∷ filter p (range_with_len (a + 1) n)) (filter p (range_with_len (a + 1) n))) (miss a (omega arith)) ∙ none_from p n (a + 1) (λ k h. miss k (omega arith))

longer : (p : ℕ → Bool) (m j a : ℕ) → ((k : ℕ) → a + m ≤ k → p k ≡ false) → filter p (range_with_len a (m + j)) ≡ filter p (range_with_len a m)
longer p zero j a miss = ap (λ i. filter p (range_with_len a i)) (zero-add j) ∙ none_from p j a (λ k h. miss k (omega arith))
longer p (suc m) j a miss = ap (λ i. filter p (range_with_len a i)) (suc-add m j) ∙ ap (λ xs. cond (p a) (a ∷ xs) xs) (longer p m j (a + 1) (λ k h. miss k (omega arith)))

same_range : (p : ℕ → Bool) (m n : ℕ) → m ≤ n → ((k : ℕ) → m ≤ k → p k ≡ false) → filter p (upto n) ≡ filter p (upto m)
same_range p m n h miss = let e : m + (n - m) ≡ n = omega arith in sym (ap (λ i. filter p (upto i)) e) ∙ longer p m (n - m) 0 (λ k l. miss k (omega arith))

pub columns_below : (n x : ℕ) → x < 2 ^ n → columns x ≡ filter (has x) (upto n)
unfolding columns
columns_below n x h = elim (cases_lt x n) as (λ _. filter (has x) (upto x) ≡ filter (has x) (upto n)) [
  | inl l ↦ sym (same_range (has x) x n (omega arith) (λ k g. has_above x x k (lt-pow x) g))
  | inr g ↦ same_range (has x) n x g (λ k g. has_above x n k h g)
]

pub size-ones : (x : ℕ) → x < 2 ^ 128 → size x ≡ ones x
unfolding size
size-ones x h = ap length (columns_below 128 x h) ∙ length-columns_below 128 x h
