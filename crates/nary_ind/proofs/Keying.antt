-- Keys of rows.
use Rattle.std.proofs.Common.{inl, inr, ◌≡◌, ◌⊎◌, ℕ, zero, suc, ◌+◌, ◌-◌, ◌<◌, ◌≤◌, true, eqb, is_ok, refl, sym, ap, ◌∙◌, subst, arith, List, [], ◌∷◌, ◌++◌, length, map, take, set, replicate, get_or, append_assoc, Result, Ok, Err}
use Rattle.std.specs.Prelude.{◌↔◌, MatchResult}
use Rattle.std.specs.List.{dedup}
use Rattle.std.specs.List.Sorted.{IsBinarySearchResult, IsPermutation, IsStrictlyIncreasing}
use Rattle.std.specs.Ordering.{nat_cmp}
use Rattle.std.proofs.lemmas.Bool.{cases_lt, false≢true}
use Rattle.std.proofs.lemmas.List.{length-map, take_more, map_push, set_at, get_or_default}
use Rattle.std.proofs.lemmas.List.Kept.{AllPairs-from_increasing, Contains-dedup_nat, Contains-from_dedup}
use Rattle.std.proofs.lemmas.List.Sorted.{searched, Contains-permutation, IsPermutation-sym}
use Rattle.col_set.specs.Lists.{Listed, Listed-append_left, Listed-append_right, Listed-append_cases}
use Rattle.col_set.proofs.Places.{Contains-listed, Listed-contained, Listed-get_or}
use Rattle.nary_ind.specs.Tables.{Coded, number_in}
use Rattle.nary_ind.specs.Keys.{IsKeyBelow, code_in}

-- ---- a key more
module _ (keys new : List ℕ) (key : ℕ) (is : new ≡ keys ++ key ∷ []) where
  pub kept : (x : ℕ) → Listed x keys → Listed x new
  kept x h = subst (λ (ks : List ℕ). Listed x ks) (sym is) (Listed-append_left x keys (key ∷ []) h)

  pub put : Listed key new
  put = subst (λ (ks : List ℕ). Listed key ks) (sym is) (Listed-append_right key keys (key ∷ []) (inl refl))

  pub old-or-key : (x : ℕ) → Listed x new → Listed x keys ⊎ (x ≡ key)
  old-or-key x h = last (Listed-append_cases x keys (key ∷ []) (subst (λ (ks : List ℕ). Listed x ks) is h))
    where
      last : Listed x keys ⊎ Listed x (key ∷ []) → Listed x keys ⊎ (x ≡ key)
      last (inl g) = inl g
      last (inr (inl e)) = inr e
      last (inr (inr g)) = absurd g

-- ---- a row more
module _ (t : Coded) (cs : List ℕ) where
  none-below : (x : ℕ) → IsKeyBelow 0 t cs x → ⊥
  none-below x b = let l = b.1 in absurd (omega arith)

  below-more : (n : ℕ) (x : ℕ) → IsKeyBelow n t cs x → IsKeyBelow (n + 1) t cs x
  below-more n x b = let l = b.1 in (b.0, omega arith, b.2)

  last-or-below : (n : ℕ) (x : ℕ) → IsKeyBelow (n + 1) t cs x → IsKeyBelow n t cs x ⊎ (code_in t cs n ≡ x)
  last-or-below n x b = by (le_cases b.0 n (let l = b.1 in omega arith))
    where
      le_cases : (c n : ℕ) → c ≤ n → (c < n) ⊎ (c ≡ n)
      le_cases zero zero l = inr refl
      le_cases zero (suc n) l = inl (omega arith)
      le_cases (suc c) zero l = absurd (omega arith)
      le_cases (suc c) (suc n) l = elim (le_cases c n (omega arith)) as (λ _. (suc c < suc n) ⊎ (suc c ≡ suc n)) [ inl m ↦ inl (omega arith) | inr e ↦ inr (ap suc e) ]

      by : (b.0 < n) ⊎ (b.0 ≡ n) → IsKeyBelow n t cs x ⊎ (code_in t cs n ≡ x)
      by (inl l) = inl (b.0, l, b.2)
      by (inr e) = inr (ap (code_in t cs) (sym e) ∙ b.2)

  module _ (wanted : ℕ → Type 0) where
    pub start : (keys : List ℕ) → keys ≡ [] → (x : ℕ) → Listed x keys ↔ (IsKeyBelow 0 t cs x × wanted x)
    start keys none x = ((λ h. absurd (subst (λ (ks : List ℕ). Listed x ks) none h)), (λ h. absurd (none-below x h.0)))

    pub step-yes : (n : ℕ) (old new : List ℕ) (key : ℕ) → ((x : ℕ) → Listed x old ↔ (IsKeyBelow n t cs x × wanted x)) → key ≡ code_in t cs n → wanted key
        → new ≡ old ++ key ∷ [] → (x : ℕ) → Listed x new ↔ (IsKeyBelow (n + 1) t cs x × wanted x)
    step-yes n old new key each at good is x = ((λ h. there (old-or-key old new key is x h)), (λ h. back h (last-or-below n x h.0)))
      where
        there : Listed x old ⊎ (x ≡ key) → IsKeyBelow (n + 1) t cs x × wanted x
        there (inl h) = let w = (each x).0 h in (below-more n x w.0, w.1)
        there (inr e) = ((n, omega arith, sym at ∙ sym e), subst wanted (sym e) good)

        back : IsKeyBelow (n + 1) t cs x × wanted x → IsKeyBelow n t cs x ⊎ (code_in t cs n ≡ x) → Listed x new
        back h (inl b) = kept old new key is x ((each x).1 (b, h.1))
        back h (inr e) = subst (λ (k : ℕ). Listed k new) (at ∙ e) (put old new key is)

    pub step-not : (n : ℕ) (old new : List ℕ) (key : ℕ) → ((x : ℕ) → Listed x old ↔ (IsKeyBelow n t cs x × wanted x)) → key ≡ code_in t cs n → (wanted key → ⊥) → new ≡ old
        → (x : ℕ) → Listed x new ↔ (IsKeyBelow (n + 1) t cs x × wanted x)
    step-not n old new key each at bad is x =
        ((λ h. let w = (each x).0 (subst (λ (ks : List ℕ). Listed x ks) is h) in (below-more n x w.0, w.1)), (λ h. subst (λ (ks : List ℕ). Listed x ks) (sym is) (back h (last-or-below n x h.0))))
      where
        back : IsKeyBelow (n + 1) t cs x × wanted x → IsKeyBelow n t cs x ⊎ (code_in t cs n ≡ x) → Listed x old
        back h (inl b) = (each x).1 (b, h.1)
        back h (inr e) = absurd (bad (subst wanted (sym e ∙ sym at) h.1))

-- ---- a number more in a key
pub key-more : (t : Coded) (cs : List ℕ) (i k c : ℕ) (old : List ℕ) → k < length cs → length cs ≤ 4 → c ≡ get_or cs k c → old ≡ map (λ c. number_in t c i) (take k cs) ++ replicate (4 - k) 0
    → set old k (number_in t c i) ≡ map (λ c. number_in t c i) (take (k + 1) cs) ++ replicate (4 - (k + 1)) 0
key-more t cs i k c old l m at is =
    let f : ℕ → ℕ = λ c. number_in t c i in
    let e : 4 - k ≡ suc (4 - (k + 1)) = omega arith in
    ap (λ (xs : List ℕ). set xs k (f c)) (is ∙ ap (λ (n : ℕ). map f (take k cs) ++ replicate n 0) e)
    ∙ set_at (map f (take k cs)) 0 (replicate (4 - (k + 1)) 0) (f c) k (length-map (take k cs) f ∙ taken k cs l)
    ∙ sym (append_assoc (map f (take k cs)) (f c ∷ []) (replicate (4 - (k + 1)) 0))
    ∙ ap (λ (xs : List ℕ). xs ++ replicate (4 - (k + 1)) 0) (sym (ap (map f) (take_more cs k c l ∙ ap (λ (d : ℕ). take k cs ++ d ∷ []) (sym at)) ∙ map_push f (take k cs) c))
  where
    taken : (k : ℕ) (cs : List ℕ) → k < length cs → length (take k cs) ≡ k
    taken zero cs l = refl
    taken (suc k) [] l = absurd (omega arith)
    taken (suc k) (c ∷ cs) l = ap suc (taken k cs (omega arith))

-- ---- in order, each once
pub Listed-distinct : (xs ys : List ℕ) → IsPermutation xs ys → (a : ℕ) → Listed a xs → Listed a (dedup eqb ys)
Listed-distinct xs ys moved a h = Listed-contained a _ (Contains-dedup_nat ys a (Contains-permutation xs ys a moved (Contains-listed a xs h)))

pub Listed-from_distinct : (xs ys : List ℕ) → IsPermutation xs ys → (a : ℕ) → Listed a (dedup eqb ys) → Listed a xs
Listed-from_distinct xs ys moved a h = Listed-contained a xs (Contains-permutation ys xs a (IsPermutation-sym xs ys moved) (Contains-from_dedup eqb ys a (Contains-listed a _ h)))

-- what a search by halves says of a key among others that ascend
module _ (xs : List ℕ) (x : ℕ) (up : IsStrictlyIncreasing xs) where
  climbs : (i j : ℕ) → i ≤ j → j < length xs → get_or xs i 0 ≤ get_or xs j 0
  climbs i j l h = elim (cases_lt i j) as (λ _. get_or xs i 0 ≤ get_or xs j 0) [
    | inl m ↦ let g = AllPairs-from_increasing xs up i j 0 m h in omega arith
    | inr m ↦ let e : i ≡ j = omega arith in let s = ap (λ (k : ℕ). get_or xs k 0) e in omega arith
  ]

  absent : (i : ℕ) → ((k : ℕ) → k < i → get_or xs k 0 < x) → ((k : ℕ) → i ≤ k → k < length xs → x < get_or xs k 0) → Listed x xs → ⊥
  absent i low high h =
      let v = Contains-listed x xs h in
      let same : get_or xs v.0 0 ≡ x = sym (get_or_default xs v.0 x 0 v.1) ∙ v.2 in
      elim (cases_lt v.0 i) as (λ _. ⊥) [
        | inl l ↦ let g = low v.0 l in omega arith
        | inr l ↦ let g = high v.0 l v.1 in omega arith
      ]

  pub found-key : (r : Result ℕ ℕ) → IsBinarySearchResult (λ y. nat_cmp y x) xs r → (is_ok r ≡ true) ↔ Listed x xs
  found-key r s = by r (searched xs x r s climbs)
    where
      by : (r : Result ℕ ℕ) → MatchResult r (λ i. (i < length xs) × (get_or xs i 0 ≡ x)) (λ i. (i ≤ length xs) × ((k : ℕ) → k < i → get_or xs k 0 < x) × ((k : ℕ) → i ≤ k → k < length xs → x < get_or xs k 0))
          → (is_ok r ≡ true) ↔ Listed x xs
      by (Ok i) h = ((λ e. subst (λ (k : ℕ). Listed k xs) h.1 (Listed-get_or xs i 0 h.0)), (λ g. refl))
      by (Err i) h = ((λ e. absurd (false≢true e)), (λ g. absurd (absent i h.1 h.2 g)))

-- ---- keys that are each found
pub all-listed : (keys found : List ℕ) (n : ℕ) → length keys ≤ n → ((k : ℕ) → k < n → k < length keys → Listed (get_or keys k 0) found) → (key : ℕ) → Listed key keys → Listed key found
all-listed [] found n l f key h = absurd h
all-listed (x ∷ keys) found n l f key (inl e) = subst (λ (y : ℕ). Listed y found) (sym e) (f 0 (omega arith) (omega arith))
all-listed (x ∷ keys) found n l f key (inr h) = all-listed keys found (n - 1) (omega arith) (λ k m g. f (suc k) (omega arith) (omega arith)) key h

pub listed-place : (keys : List ℕ) (k : ℕ) (key : ℕ) → k < length keys → key ≡ get_or keys k 0 → Listed key keys
listed-place keys k key l e = subst (λ (x : ℕ). Listed x keys) (sym e) (Listed-get_or keys k 0 l)
