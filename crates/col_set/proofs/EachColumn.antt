-- A loop over the columns of a set, by `first` and `without`: the rest is a smaller number, and its columns are the others.
use Rattle.std.proofs.Common.{inl, inr, ◌≡◌, ℕ, ◌+◌, ◌<◌, Bool, true, false, cond, not, ◌&&◌, eqb, refl, sym, ap, ap₂, ◌∙◌, subst, arith, List, [], ◌∷◌, slice_get, Some, None}
use Rattle.std.specs.List.{filter}
use Rattle.std.proofs.lemmas.Bool.{true≢false, and_parts, and_from, ne_eqb, eq-eqb}
use Rattle.std.proofs.lemmas.Option.{same_Some, none-some}
use Rattle.col_set.specs.ColSet.{has, without, columns, first, set_of, upto}
use Rattle.col_set.specs.Members.{has-without, same_set}
use Rattle.col_set.specs.Lists.{Listed, Listed-filter, Listed-filter_parts}
use Rattle.col_set.specs.Subsets.{IsSubset-le, same_test, has_within}
use Rattle.col_set.specs.Columns.{lt-pow}
use Rattle.col_set.specs.AllSets.{Ascends, Ascends-weaker, Ascends-range, Ascends_within, Listed-upto, set_of-has, has-set_of, columns-set_of}

pub without-lt : (x k : ℕ) → has x k ≡ true → without x k < x
without-lt x k h =
    let l = IsSubset-le {x = without x k} {y = x} (record { each = λ j e. (and_parts (has x j) (not (eqb j k)) (sym (has-without x k j) ∙ e)).0 }) in
    let ne : without x k ≡ x → ⊥ = λ e. true≢false (sym h ∙ ap (λ (z : ℕ). has z k) (sym e) ∙ gone) in
    omega arith
  where
    gone : has (without x k) k ≡ false
    gone = has-without x k k ∙ ap (λ b. has x k && not b) (eq-eqb k k refl) ∙ and_false (has x k)
      where
        and_false : (b : Bool) → (b && false) ≡ false
        and_false true = refl
        and_false false = refl

Ascends-filter : (p : ℕ → Bool) (a b : ℕ) (xs : List ℕ) → Ascends a b xs → Ascends a b (filter p xs)
Ascends-filter p a b [] r = tt
Ascends-filter p a b (x ∷ xs) r = by (p x) (Ascends-filter p (x + 1) b xs r.2)
  where
    by : (t : Bool) → Ascends (x + 1) b (filter p xs) → Ascends a b (cond t (x ∷ filter p xs) (filter p xs))
    by true h = (r.0, r.1, h)
    by false h = let l = r.0 in Ascends-weaker a (x + 1) b (filter p xs) (omega arith) h

pub Listed-columns : (x k : ℕ) → has x k ≡ true → Listed k (columns x)
unfolding columns
Listed-columns x k h = Listed-filter (has x) k (upto x) (Listed-upto x k (has_within x x k (lt-pow x) h)) h

pub columns-listed : (x k : ℕ) → Listed k (columns x) → has x k ≡ true
unfolding columns
columns-listed x k h = (Listed-filter_parts (has x) k (upto x) h).1

pub Ascends-columns : (x : ℕ) → Ascends 0 x (columns x)
unfolding columns
Ascends-columns x = Ascends-filter (has x) 0 x (upto x) (Ascends-range x 0 x (omega arith))

-- a list that ascends from its head on: the set without the head has the tail's columns
tail_of : (x c b : ℕ) (cs : List ℕ) → columns x ≡ c ∷ cs → Ascends (c + 1) b cs → columns (without x c) ≡ cs
tail_of x c b cs e r = ap columns (sym same) ∙ columns-set_of cs b (Ascends-weaker 0 (c + 1) b cs (omega arith) r)
  where
    same : set_of cs ≡ without x c
    same = same_set _ _ (λ k. same_test _ _
        (λ h. let g = set_of-has k cs h in let l = (Ascends_within (c + 1) b k cs r g).0 in
        has-without x c k ∙ and_from _ _ (columns-listed x k (subst (Listed k) (sym e) (inr g))) (let ne : k ≡ c → ⊥ = λ i. omega arith in ap not (ne_eqb k c ne)))
        (λ h. let w = and_parts (has x k) (not (eqb k c)) (sym (has-without x c k) ∙ h) in
        has-set_of k cs (other k w.1 (subst (Listed k) e (Listed-columns x k w.0)))))
      where
        other : (k : ℕ) → not (eqb k c) ≡ true → Listed k (c ∷ cs) → Listed k cs
        other k g (inl i) = absurd (true≢false (sym g ∙ ap not (eq-eqb k c i)))
        other k g (inr h) = h

pub record Rest (x k : ℕ) : Type 0 where
  pub had : has x k ≡ true
  pub columns_are : columns x ≡ k ∷ columns (without x k)
  pub smaller : without x k < x

pub first-Some : (x k : ℕ) → Some k ≡ first x → Rest x k
unfolding first
first-Some x k e = by (columns x) refl e (Ascends-columns x)
  where
    by : (cs : List ℕ) → columns x ≡ cs → Some k ≡ slice_get cs 0 → Ascends 0 x cs → Rest x k
    by [] i e r = absurd (none-some k (sym e))
    by (c ∷ cs) i e r =
        let same : k ≡ c = same_Some k c e in
        let h : has x k ≡ true = columns-listed x k (subst (Listed k) (sym i) (inl same)) in
        record {
          had = h;
          columns_are = i ∙ ap₂ (λ (y : ℕ) (ys : List ℕ). y ∷ ys) (sym same) (sym (tail_of x c x cs i r.2) ∙ ap (λ (y : ℕ). columns (without x y)) (sym same));
          smaller = without-lt x k h;
        }

pub first-None : (x : ℕ) → None ≡ first x → columns x ≡ []
unfolding first
first-None x e = by (columns x) e
  where
    by : (cs : List ℕ) → None ≡ slice_get cs 0 → cs ≡ []
    by [] e = refl
    by (c ∷ cs) e = absurd (none-some c e)
