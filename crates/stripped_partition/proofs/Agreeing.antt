-- Agreement by codes on a column set.
use Rattle.std.proofs.Common.{inl, inr, ◌≡◌, ℕ, ◌<◌, Bool, true, false, ◌||◌, eqb, refl, sym, ◌∙◌, length}
use Rattle.std.proofs.lemmas.Bool.{false≢true, eqb-true, eq-eqb, or_cases}
use Rattle.col_set.specs.ColSet.{has, with, union, upto, IsSubset}
use Rattle.col_set.specs.Lists.{Listed-filter, Listed-filter_parts}
use Rattle.col_set.specs.Subsets.{subset-true, true-subset, IsSubset-trans, IsSubset-with, with_subset, has-with_itself}
use Rattle.col_set.specs.Members.{has-empty, has-union}
use Rattle.col_set.specs.AllSets.{set_of-has, has-set_of, Listed-upto, Listed-upto_within}
use Rattle.rel_base.specs.CodeTable.{CodeTable, code_at}
use Rattle.rel_base.specs.Shows.{code_agree}
use Rattle.stripped_partition.specs.Stripped.{agree_on}
use Rattle.stripped_partition.proofs.Grouped.{IsSame}

module _ (s : CodeTable) where
  pub code_agree-parts : (i j k : ℕ) → has (code_agree s i j) k ≡ true → (k < length s.codes) × (code_at s i k ≡ code_at s j k)
  unfolding code_agree
  code_agree-parts i j k e =
      let w = Listed-filter_parts (λ k. eqb (code_at s i k) (code_at s j k)) k (upto (length s.codes)) (set_of-has k _ e) in
      (Listed-upto_within (length s.codes) k w.0, eqb-true _ _ w.1)

  pub code_agree-from : (i j k : ℕ) → k < length s.codes → code_at s i k ≡ code_at s j k → has (code_agree s i j) k ≡ true
  unfolding code_agree
  code_agree-from i j k l e = has-set_of k _ (Listed-filter (λ k. eqb (code_at s i k) (code_at s j k)) k (upto (length s.codes)) (Listed-upto (length s.codes) k l) (eq-eqb _ _ e))

  pub agree_on-subset : (x i j : ℕ) → agree_on s x i j ≡ true → IsSubset x (code_agree s i j)
  unfolding agree_on
  agree_on-subset x i j e = subset-true e

  pub subset-agree_on : (x i j : ℕ) → IsSubset x (code_agree s i j) → agree_on s x i j ≡ true
  unfolding agree_on
  subset-agree_on x i j h = true-subset h

  pub agree_same : (x : ℕ) → IsSame (agree_on s x)
  agree_same x = record {
    symm = λ i j e. let h = agree_on-subset x i j e in subset-agree_on x j i (record { each = λ k m. let w = code_agree-parts i j k (h.each k m) in code_agree-from j i k w.0 (sym w.1) });
    trans = λ i j k e f. let h = agree_on-subset x i j e in let g = agree_on-subset x j k f in
        subset-agree_on x i k (record { each = λ c m. let w = code_agree-parts i j c (h.each c m) in let v = code_agree-parts j k c (g.each c m) in code_agree-from i k c w.0 (w.1 ∙ v.1) });
  }

  pub agree_on-empty : (i j : ℕ) → agree_on s 0 i j ≡ true
  agree_on-empty i j = subset-agree_on 0 i j (record { each = λ k m. absurd (false≢true (sym (has-empty k) ∙ m)) })

  -- one more column
  pub agree_on-with_parts : (x a i j : ℕ) → agree_on s (with x a) i j ≡ true → (agree_on s x i j ≡ true) × (has (code_agree s i j) a ≡ true)
  agree_on-with_parts x a i j e = let h = agree_on-subset (with x a) i j e in
      (subset-agree_on x i j (IsSubset-trans (IsSubset-with x a) h), h.each a (has-with_itself x a))

  pub agree_on-with : (x a i j : ℕ) → agree_on s x i j ≡ true → has (code_agree s i j) a ≡ true → agree_on s (with x a) i j ≡ true
  agree_on-with x a i j e f = subset-agree_on (with x a) i j (with_subset a (agree_on-subset x i j e) f)

  -- the columns of two sets
  pub agree_on-union_parts : (x y i j : ℕ) → agree_on s (union x y) i j ≡ true → (agree_on s x i j ≡ true) × (agree_on s y i j ≡ true)
  agree_on-union_parts x y i j e = let h = agree_on-subset (union x y) i j e in (
    subset-agree_on x i j (record { each = λ k m. h.each k (has-union x y k ∙ left (has x k) (has y k) m) }),
    subset-agree_on y i j (record { each = λ k m. h.each k (has-union x y k ∙ right (has x k) (has y k) m) }),
  )
    where
      left : (a b : Bool) → a ≡ true → (a || b) ≡ true
      left true b e = refl
      left false b e = absurd (false≢true e)

      right : (a b : Bool) → b ≡ true → (a || b) ≡ true
      right true b e = refl
      right false b e = e

  pub agree_on-union : (x y i j : ℕ) → agree_on s x i j ≡ true → agree_on s y i j ≡ true → agree_on s (union x y) i j ≡ true
  agree_on-union x y i j e f = let h = agree_on-subset x i j e in let g = agree_on-subset y i j f in
      subset-agree_on (union x y) i j (record { each = λ k m. elim (or_cases (has x k) (has y k) (sym (has-union x y k) ∙ m)) as (λ _. has (code_agree s i j) k ≡ true) [ inl l ↦ h.each k l | inr l ↦ g.each k l ] })
