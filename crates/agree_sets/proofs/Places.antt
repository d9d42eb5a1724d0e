-- The bits of an agreement, place by place.
use Rattle.std.proofs.Common.{◌≡◌, ◌<◌, ◌≤◌, ◌⊎◌, ◌↔◌, inl, inr, ℕ, List, Bool, true, false, cond, length, eqb, get_or, ap, ◌∙◌, sym, refl, arith}
use Rattle.std.specs.Simd.Lanes.{zip2}
use Rattle.std.proofs.lemmas.Bool.{eqb-true, eq-eqb, cases_lt, false≢true}
use Rattle.std.proofs.lemmas.Simd.{bit_mask_l, get_or-zip2}
use Rattle.col_set.specs.ColSet.{has, upto}
use Rattle.col_set.specs.Members.{same_set, has_above}
use Rattle.col_set.specs.Subsets.{same_test}
use Rattle.col_set.specs.Lists.{Listed-filter, Listed-filter_parts}
use Rattle.col_set.specs.AllSets.{set_of-has, has-set_of, Listed-upto, Listed-upto_within}
use Rattle.agree_sets.specs.Agreement.{agree_set, agreement_bits}
use Rattle.agree_sets.proofs.Masks.{agreement_bits-lt}

-- what stands at place k of the agree set
pub agree_set-parts : (a b : List ℕ) (k : ℕ) → has (agree_set a b) k ≡ true → (k < length a) × (get_or a k 0 ≡ get_or b k 0)
unfolding agree_set
agree_set-parts a b k h =
    let w = Listed-filter_parts (λ i. eqb (get_or a i 0) (get_or b i 0)) k (upto (length a)) (set_of-has k _ h) in
    (Listed-upto_within (length a) k w.0, eqb-true _ _ w.1)

pub agree_set-from : (a b : List ℕ) (k : ℕ) → k < length a → get_or a k 0 ≡ get_or b k 0 → has (agree_set a b) k ≡ true
unfolding agree_set
agree_set-from a b k l e =
    has-set_of k _ (Listed-filter (λ i. eqb (get_or a i 0) (get_or b i 0)) k (upto (length a)) (Listed-upto (length a) k l) (eq-eqb _ _ e))

bit_test : (b : Bool) → eqb (cond b 1 0) 1 ≡ b
bit_test true = refl
bit_test false = refl

pub bits-at : (a b : List ℕ) (k : ℕ) → length a ≡ length b → k < length a → has (agreement_bits a b) k ≡ eqb (get_or a k 0) (get_or b k 0)
unfolding has
bits-at a b k e l =
    ap (λ (n : ℕ). eqb n 1) (bit_mask_l (zip2 eqb a b) k)
    ∙ bit_test (get_or (zip2 eqb a b) k false)
    ∙ get_or-zip2 eqb a b k 0 0 false l (omega arith)

-- the bits are the agree set
pub bits-agree_set : (a b : List ℕ) → length a ≡ length b → agreement_bits a b ≡ agree_set a b
bits-agree_set a b e = same_set _ _ (λ k. at k (cases_lt k (length a)))
  where
    at : (k : ℕ) → (k < length a) ⊎ (length a ≤ k) → has (agreement_bits a b) k ≡ has (agree_set a b) k
    at k (inl l) = same_test _ _
        (λ h. agree_set-from a b k l (eqb-true _ _ (sym (bits-at a b k e l) ∙ h)))
        (λ h. bits-at a b k e l ∙ eq-eqb _ _ (agree_set-parts a b k h).1)
    at k (inr g) = same_test _ _
        (λ h. absurd (false≢true (sym (has_above (agreement_bits a b) (length a) k (agreement_bits-lt (length a) a b refl (sym e)) g) ∙ h)))
        (λ h. let l = (agree_set-parts a b k h).0 in absurd (omega arith))

-- each place of the agree set, of any set that equals it
pub agree_set-each : (s : ℕ) (a b : List ℕ) → s ≡ agree_set a b → (k : ℕ) → (has s k ≡ true) ↔ ((k < length a) × (get_or a k 0 ≡ get_or b k 0))
agree_set-each s a b e k = (
  (λ h. agree_set-parts a b k (sym (ap (λ (z : ℕ). has z k) e) ∙ h)),
  (λ p. ap (λ (z : ℕ). has z k) e ∙ agree_set-from a b k p.0 p.1),
)
