-- The plain definition of a key, as the tests run it.
use Rattle.std.proofs.Common.{inl, inr, ◌≡◌, ◌≢◌, ◌⊎◌, ℕ, ◌<◌, ◌^◌, Bool, true, false, not, eqb, refl, sym, ap, ◌∙◌, subst, arith, List, Some, None}
use Rattle.std.proofs.lemmas.Bool.{and_parts, and_from, true≢false, false_from_ne_true, cases_eq, ne_eqb}
use Rattle.col_set.specs.ColSet.{IsSubset, has, all, without, subset, first, columns}
use Rattle.col_set.specs.Members.{has-without}
use Rattle.col_set.specs.Subsets.{IsSubset-trans, IsSubset-antisymm, subset-true, true-subset, subset_below}
use Rattle.col_set.specs.Lists.{Listed}
use Rattle.col_set.proofs.EachColumn.{first-Some, first-None, Listed-columns, without-lt}
use Rattle.lossless_join.proofs.Heath.{all-below}
use Rattle.key_finder.specs.Keys.{told_apart}
use Rattle.key_finder.specs.PlainKeys.{IsKeyWithin}
use Rattle.key_finder.proofs.Tells.{told_by, told_from}

-- what tells rows apart that agree on a set tells those apart that agree on a part of it
told-less : (ws : List ℕ) (s x y : ℕ) → IsSubset y x → told_apart ws s x ≡ true → told_apart ws s y ≡ true
told-less ws s x y i e = let w = told_by ws s x e in told_from ws s y w.0 w.1 (true-subset (IsSubset-trans i (subset-true w.2))) w.3

-- the columns of x tried so far are needed
pub record Trying (ws : List ℕ) (s x left : ℕ) : Type 0 where
  pub inside : IsSubset x s
  pub stands : told_apart ws s x ≡ false
  pub rest : IsSubset left x
  pub needed : (k : ℕ) → has x k ≡ true → (has left k ≡ true) ⊎ (told_apart ws s (without x k) ≡ true)

module _ (ws : List ℕ) (s x : ℕ) where
  pub trying_start : IsSubset x s → told_apart ws s x ≡ false → Trying ws s x x
  trying_start i e = record { inside = i; stands = e; rest = record { each = λ k h. h }; needed = λ k h. inl h }

  module _ (left : ℕ) (u : Trying ws s x left) where
    pub trying_smaller : (column rest : ℕ) → Some column ≡ first left → rest ≡ without left column → rest < left
    trying_smaller column rest e r = subst (λ (z : ℕ). z < left) (sym r) (first-Some left column e).smaller

    pub trying_more : (column rest : ℕ) → Some column ≡ first left → rest ≡ without left column → told_apart ws s (without x column) ≡ true → Trying ws s x rest
    trying_more column rest e r t = record {
      inside = u.inside;
      stands = u.stands;
      rest = record { each = λ k h. u.rest.each k (and_parts (has left k) (not (eqb k column)) (sym (has-without left column k) ∙ ap (λ (z : ℕ). has z k) (sym r) ∙ h)).0 };
      needed = λ k h. by k (u.needed k h) (cases_eq k column);
    }
      where
        by : (k : ℕ) → (has left k ≡ true) ⊎ (told_apart ws s (without x k) ≡ true) → (k ≡ column) ⊎ (k ≢ column) → (has rest k ≡ true) ⊎ (told_apart ws s (without x k) ≡ true)
        by k h (inl i) = inr (subst (λ (j : ℕ). told_apart ws s (without x j) ≡ true) (sym i) t)
        by k (inl h) (inr ne) = inl (ap (λ (z : ℕ). has z k) r ∙ has-without left column k ∙ and_from _ _ h (ap not (ne_eqb k column ne)))
        by k (inr h) (inr ne) = inr h

    pub trying_fails : (column : ℕ) → Some column ≡ first left → told_apart ws s (without x column) ≡ false → IsKeyWithin ws s x → ⊥
    trying_fails column e t k =
        let h = u.rest.each column (first-Some left column e).had in
        let i : without x column ≡ x = k.smallest (without x column) (record { each = λ j g. (and_parts (has x j) (not (eqb j column)) (sym (has-without x column j) ∙ g)).0 }) t in
        let l = without-lt x column h in
        differ (without x column) x l i
      where
        differ : (a b : ℕ) → a < b → a ≡ b → ⊥
        differ a b l e = omega arith

    pub trying_end : None ≡ first left → IsKeyWithin ws s x
    trying_end e = record {
      inside = u.inside;
      stands = u.stands;
      smallest = λ y i t. IsSubset-antisymm i (record { each = λ k h. by y i t k (has y k) refl (u.needed k h) });
    }
      where
        by : (y : ℕ) → IsSubset y x → told_apart ws s y ≡ false → (k : ℕ) → (b : Bool) → has y k ≡ b → (has left k ≡ true) ⊎ (told_apart ws s (without x k) ≡ true) → has y k ≡ true
        by y i t k true j h = j
        by y i t k false j (inl h) = absurd (subst (Listed k) (first-None left e) (Listed-columns left k h))
        by y i t k false j (inr h) = absurd (true≢false (sym (told-less ws s (without x k) y (record {
          each = λ l g.
              has-without x k l ∙ and_from _ _ (i.each l g) (ap not (ne_eqb l k (λ m. true≢false (sym g ∙ ap (has y) m ∙ j))));
        }) h) ∙ t))

pub within-true : (columns n whole : ℕ) → whole ≡ all n → subset columns whole ≡ true → columns < 2 ^ n
within-true columns n whole e s = subset_below n (subset-true (ap (subset columns) (sym e) ∙ s)) (all-below n)
