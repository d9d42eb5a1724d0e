-- The first element that passes a test, of a list that rises, and where a set lies inside another.
use Rattle.std.proofs.Common.{inl, inr, ◌≡◌, ◌⊎◌, ℕ, ◌<◌, ◌^◌, Bool, true, false, cond, refl, sym, ap, ◌∙◌, List, [], ◌∷◌, Ordering, Less, Option, Some, None}
use Rattle.std.specs.List.{find}
use Rattle.std.proofs.lemmas.Bool.{true≢false, false≢true}
use Rattle.std.proofs.lemmas.Option.{same_Some, none-some}
use Rattle.col_set.specs.ColSet.{Columns, IsSubset, has, upto}
use Rattle.col_set.specs.Lists.{Listed, Rises}
use Rattle.col_set.specs.AllSets.{Listed-upto}
use Rattle.col_set.specs.Subsets.{IsSubset-antisymm, has_within}

module _ {X : Type 0} where
  pub find_passes : (p : X → Bool) (xs : List X) (x : X) → find p xs ≡ Some x → Listed x xs × (p x ≡ true)
  find_passes p [] x e = absurd (none-some x e)
  find_passes p (y ∷ xs) x e = by (p y) refl e (λ g. find_passes p xs x g)
    where
      by : (b : Bool) → p y ≡ b → cond b (Some y) (find p xs) ≡ Some x → (find p xs ≡ Some x → Listed x xs × (p x ≡ true)) → Listed x (y ∷ xs) × (p x ≡ true)
      by true i g rest = let d = same_Some y x g in (inl (sym d), sym (ap p d) ∙ i)
      by false i g rest = let w = rest g in (inr w.0, w.1)

  pub find_none : (p : X → Bool) (xs : List X) (x : X) → find p xs ≡ None → Listed x xs → p x ≡ false
  find_none p [] x e h = absurd h
  find_none p (y ∷ xs) x e h = by (p y) refl e h (λ g h. find_none p xs x g h)
    where
      by : (b : Bool) → p y ≡ b → cond b (Some y) (find p xs) ≡ None → Listed x (y ∷ xs) → (find p xs ≡ None → Listed x xs → p x ≡ false) → p x ≡ false
      by true i g h rest = absurd (none-some y (sym g))
      by false i g (inl d) rest = ap p d ∙ i
      by false i g (inr h) rest = rest g h

  -- it stands before all others that pass
  pub find_first : (R : X → X → Ordering) (p : X → Bool) (xs : List X) (x y : X) → Rises R xs → find p xs ≡ Some x → Listed y xs → p y ≡ true → (x ≡ y) ⊎ (R x y ≡ Less)
  find_first R p [] x y r e h i = absurd h
  find_first R p (z ∷ xs) x y r e h i = by (p z) refl e h (λ g h. find_first R p xs x y r.1 g h i)
    where
      by : (b : Bool) → p z ≡ b → cond b (Some z) (find p xs) ≡ Some x → Listed y (z ∷ xs) → (find p xs ≡ Some x → Listed y xs → (x ≡ y) ⊎ (R x y ≡ Less)) → (x ≡ y) ⊎ (R x y ≡ Less)
      by true j g (inl d) rest = inl (sym (same_Some z x g) ∙ sym d)
      by true j g (inr h) rest = inr (ap (λ w. R w y) (sym (same_Some z x g)) ∙ r.0 y h)
      by false j g (inl d) rest = absurd (true≢false (sym i ∙ ap p d ∙ j))
      by false j g (inr h) rest = rest g h

  pub find_cases : (p : X → Bool) (xs : List X) → (find p xs ≡ None) ⊎ ((x : X) × (find p xs ≡ Some x))
  find_cases p xs = by (find p xs) refl
    where
      by : (o : Option X) → find p xs ≡ o → (find p xs ≡ None) ⊎ ((x : X) × (find p xs ≡ Some x))
      by None e = inl e
      by (Some x) e = inr (x, e)

-- a set inside another is that one, or lacks one of its columns
gap : Columns → Columns → ℕ → Bool
gap x y c = cond (has x c) false (has y c)

filled : (x y k : ℕ) → has y k ≡ true → gap x y k ≡ false → has x k ≡ true
unfolding gap
filled x y k h e = by (has x k) refl e
  where
    by : (a : Bool) → has x k ≡ a → cond a false (has y k) ≡ false → has x k ≡ true
    by true i g = i
    by false i g = absurd (true≢false (sym h ∙ g))

gap_parts : (x y c : ℕ) → gap x y c ≡ true → (has x c ≡ false) × (has y c ≡ true)
unfolding gap
gap_parts x y c e = by (has x c) refl e
  where
    by : (a : Bool) → has x c ≡ a → cond a false (has y c) ≡ true → (has x c ≡ false) × (has y c ≡ true)
    by true i g = absurd (false≢true g)
    by false i g = (i, g)

pub same_or_less : (n x y : ℕ) → y < 2 ^ n → IsSubset x y → (x ≡ y) ⊎ ((c : ℕ) × (has x c ≡ false) × (has y c ≡ true))
same_or_less n x y b s = elim (find_cases (gap x y) (upto n)) as (λ _. (x ≡ y) ⊎ ((c : ℕ) × (has x c ≡ false) × (has y c ≡ true))) [
  | inl e ↦ inl (IsSubset-antisymm s (record { each = λ k h. filled x y k h (find_none (gap x y) (upto n) k e (Listed-upto n k (has_within y n k b h))) }))
  | inr w ↦ let q = gap_parts x y w.0 (find_passes (gap x y) (upto n) w.0 w.1).1 in inr (w.0, q.0, q.1)
]
