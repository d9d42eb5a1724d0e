-- Subsets as an order, and as numbers.
use Rattle.std.proofs.Common.{inl, inr, ◌≡◌, ◌≢◌, ℕ, ◌%◌, ◌^◌, ◌<◌, ◌≤◌, Bool, true, false, not, ◌&&◌, ◌||◌, eqb, refl, sym, ap, ◌∙◌, subst, arith}
use Rattle.std.specs.Prelude.{bit_and}
use Rattle.std.proofs.lemmas.Nat.{and_le_r, and_mask, pow_pos}
use Rattle.std.proofs.lemmas.Bool.{eqb-true, eqb-false, eq-eqb, ne_eqb, true≢false, and_parts, and_from, not-true, lt-ltb, cases_lt}
use Rattle.std.proofs.Math.Nat.{mod-lt}
use Rattle.col_set.specs.ColSet.{has, all, with, inter, subset}
pub use Rattle.col_set.specs.ColSet.{IsSubset}
use Rattle.col_set.specs.Minimal.{proper_subset}
use Rattle.col_set.specs.Members.{has-inter, has-all, has-with, has_above, same_set}

pub same_test : (a b : Bool) → (a ≡ true → b ≡ true) → (b ≡ true → a ≡ true) → a ≡ b
same_test true b f g = sym (f refl)
same_test false true f g = g refl
same_test false false f g = refl

pub inter_of_subset : (x y : ℕ) → IsSubset x y → bit_and x y ≡ x
unfolding inter
inter_of_subset x y s = same_set (inter x y) x (λ k. has-inter x y k ∙ same_test (has x k && has y k) (has x k) (λ e. (and_parts _ _ e).0) (λ e. and_from _ _ e (s.each k e)))

pub subset-true : {x y : ℕ} → subset x y ≡ true → IsSubset x y
unfolding subset inter
subset-true {x} {y} e = record { each = λ k h. (and_parts (has x k) (has y k) (sym (has-inter x y k) ∙ ap (λ (z : ℕ). has z k) (eqb-true _ _ e) ∙ h)).1 }

pub true-subset : {x y : ℕ} → IsSubset x y → subset x y ≡ true
unfolding subset
true-subset {x} {y} s = eq-eqb _ _ (inter_of_subset x y s)

pub IsSubset-refl : (x : ℕ) → IsSubset x x
IsSubset-refl x = record { each = λ k h. h }

pub IsSubset-trans : {x y z : ℕ} → IsSubset x y → IsSubset y z → IsSubset x z
IsSubset-trans s r = record { each = λ k h. r.each k (s.each k h) }

pub IsSubset-antisymm : {x y : ℕ} → IsSubset x y → IsSubset y x → x ≡ y
IsSubset-antisymm {x} {y} s r = same_set x y (λ k. same_test _ _ (s.each k) (r.each k))

-- a subset is no greater number
pub IsSubset-le : {x y : ℕ} → IsSubset x y → x ≤ y
IsSubset-le {x} {y} s = let e = inter_of_subset x y s in let l = and_le_r x y in omega arith

pub proper_from : {x y : ℕ} → IsSubset y x → (y ≢ x) → proper_subset y x ≡ true
unfolding proper_subset
proper_from {x} {y} s ne = and_from _ _ (true-subset s) (ap not (ne_eqb y x ne))

pub proper_parts : {x y : ℕ} → proper_subset y x ≡ true → IsSubset y x × (y ≢ x)
unfolding proper_subset
proper_parts {x} {y} e = let p = and_parts (subset y x) (not (eqb y x)) e in (subset-true p.0, eqb-false y x (not-true _ p.1))

pub IsSubset-with : (x k : ℕ) → IsSubset x (with x k)
IsSubset-with x k = record { each = λ j h. has-with x k j ∙ ap (λ b. b || eqb j k) h }

pub has-with_itself : (x k : ℕ) → has (with x k) k ≡ true
has-with_itself x k = has-with x k k ∙ or_true (has x k) (eq-eqb k k refl)
  where
    or_true : (a : Bool) {b : Bool} → b ≡ true → (a || b) ≡ true
    or_true true e = refl
    or_true false e = e

pub with_subset : {x y : ℕ} (k : ℕ) → IsSubset x y → has y k ≡ true → IsSubset (with x k) y
with_subset {x} {y} k s h = record { each = λ j e. by j (has x j) refl (sym (has-with x k j) ∙ e) }
  where
    by : (j : ℕ) (b : Bool) → has x j ≡ b → (has x j || eqb j k) ≡ true → has y j ≡ true
    by j true i e = s.each j i
    by j false i e = ap (has y) (eqb-true j k (sym (ap (λ b. b || eqb j k) i) ∙ e)) ∙ h

-- a set of columns below n
pub has_within : (x n k : ℕ) → x < 2 ^ n → has x k ≡ true → k < n
has_within x n k h e = elim (cases_lt k n) as (λ _. k < n) [ inl l ↦ l | inr g ↦ absurd (true≢false (sym e ∙ has_above x n k h g)) ]

pub below_from : (x n : ℕ) → ((k : ℕ) → has x k ≡ true → k < n) → x < 2 ^ n
unfolding inter all
below_from x n f =
    let e : inter x (all n) ≡ x = same_set _ _ (λ k. has-inter x (all n) k ∙ same_test (has x k && has (all n) k) (has x k) (λ e. (and_parts _ _ e).0) (λ e. and_from _ _ e (has-all n k ∙ lt-ltb k n (f k e)))) in
    let m : x % 2 ^ n ≡ x = sym (and_mask x n) ∙ e in
    let l : x % 2 ^ n < 2 ^ n = mod-lt x (pow_pos n) in
    subst (λ (z : ℕ). z < 2 ^ n) m l

pub subset_below : {x y : ℕ} (n : ℕ) → IsSubset x y → y < 2 ^ n → x < 2 ^ n
subset_below n s h = let l = IsSubset-le s in omega arith

pub with_below : (x k n : ℕ) → x < 2 ^ n → k < n → with x k < 2 ^ n
with_below x k n h l = below_from (with x k) n (λ j e. by j (has x j) refl (sym (has-with x k j) ∙ e))
  where
    by : (j : ℕ) (b : Bool) → has x j ≡ b → (has x j || eqb j k) ≡ true → j < n
    by j true i e = has_within x n j h i
    by j false i e = let g : j ≡ k = eqb-true j k (sym (ap (λ b. b || eqb j k) i) ∙ e) in omega arith
