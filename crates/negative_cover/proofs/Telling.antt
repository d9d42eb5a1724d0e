-- Looking a row up by halves, and going over witnesses one after another.
use Rattle.std.proofs.Common.{inl, inr, ◌≡◌, ℕ, ◌+◌, ◌<◌, ◌≤◌, Bool, true, false, cond, not, ◌&&◌, ◌||◌, eqb, refl, sym, ap, ◌∙◌, arith, List, [], ◌∷◌, ◌++◌, length, get_or, take, map, Result, Ok, Err, is_ok, append-nil}
use Rattle.std.specs.List.{filter, list_any}
use Rattle.std.specs.List.Sorted.{IsNonDecreasing, IsBinarySearchResult}
use Rattle.std.specs.Ordering.{nat_cmp}
use Rattle.std.specs.Result.{MatchResult}
use Rattle.std.proofs.lemmas.Bool.{eqb-true, eq-eqb, false_from_ne_true, cases_lt, and_parts, or_from, not-true}
use Rattle.std.proofs.lemmas.List.{map-append, get_or_default, take_more, take_all}
use Rattle.std.proofs.lemmas.List.Elements.{filter-append}
use Rattle.std.proofs.lemmas.List.Folds.{list_any_more, list_any_at}
use Rattle.std.proofs.lemmas.List.Sorted.{searched}
use Rattle.col_set.specs.declared.target.Target.{Target}
use Rattle.col_set.specs.ColSet.{subset}
use Rattle.col_set.specs.Target.{has_target}
use Rattle.col_set.specs.Evidence.{refuted}
use Rattle.col_set.specs.Lists.{list_any_at as any_listed, list_any_which}
use Rattle.col_set.proofs.Places.{Contains-listed, Listed-get_or}
use Rattle.negative_cover.specs.declared.negative_cover.Witness.{Witness}
use Rattle.negative_cover.specs.Witnesses.{sets_of, is_among, IsRefutation}

-- what a search by halves says of a number among others that ascend
pub found_by_halves : (xs : List ℕ) (x : ℕ) (r : Result ℕ ℕ) → IsBinarySearchResult (λ y. nat_cmp y x) xs r → IsNonDecreasing xs → is_ok r ≡ is_among xs x
found_by_halves xs x r s up = by r (searched xs x r s (λ i j l h. up i j 0 l h))
  where
    absent : (i : ℕ) → ((k : ℕ) → k < i → get_or xs k 0 < x) → ((k : ℕ) → i ≤ k → k < length xs → x < get_or xs k 0) → is_among xs x ≡ true → ⊥
    absent i low high e =
        let w = list_any_which (λ d. eqb d x) xs e in
        let v = Contains-listed w.0 xs w.1 in
        let same : get_or xs v.0 0 ≡ x = sym (get_or_default xs v.0 w.0 0 v.1) ∙ v.2 ∙ eqb-true w.0 x w.2 in
        elim (cases_lt v.0 i) as (λ _. ⊥) [
          | inl l ↦ let g = low v.0 l in omega arith
          | inr l ↦ let g = high v.0 l v.1 in omega arith
        ]

    by : (r : Result ℕ ℕ) → MatchResult r (λ i. (i < length xs) × (get_or xs i 0 ≡ x)) (λ i. (i ≤ length xs) × ((k : ℕ) → k < i → get_or xs k 0 < x) × ((k : ℕ) → i ≤ k → k < length xs → x < get_or xs k 0)) → is_ok r ≡ is_among xs x
    by (Ok i) h = sym (any_listed (λ d. eqb d x) (get_or xs i 0) xs (Listed-get_or xs i 0 h.0) (eq-eqb _ _ h.1))
    by (Err i) h = sym (false_from_ne_true _ (absent i h.1 h.2))

module _ {X Y : Type 0} (p : X → Bool) (f : X → Y) where
  pub kept_more : (xs : List X) (i : ℕ) (x : X) → i < length xs → x ≡ get_or xs i x → p x ≡ true → (ys : List Y) → ys ≡ map f (filter p (take i xs)) → ys ++ f x ∷ [] ≡ map f (filter p (take (i + 1) xs))
  kept_more xs i x l is e ys same =
      ap (λ (zs : List Y). zs ++ f x ∷ []) same
      ∙ sym (ap (λ zs. map f (filter p zs)) (take_more xs i x l ∙ ap (λ (z : X). take i xs ++ z ∷ []) (sym is))
      ∙ ap (map f) (filter-append p (take i xs) (x ∷ []) ∙ ap (λ b. filter p (take i xs) ++ cond b (x ∷ []) []) e)
      ∙ map-append f (filter p (take i xs)) (x ∷ []))

  pub kept_same : (xs : List X) (i : ℕ) (x : X) → i < length xs → x ≡ get_or xs i x → p x ≡ false → (ys : List Y) → ys ≡ map f (filter p (take i xs)) → ys ≡ map f (filter p (take (i + 1) xs))
  kept_same xs i x l is e ys same =
      same
      ∙ sym (ap (λ zs. map f (filter p zs)) (take_more xs i x l ∙ ap (λ (z : X). take i xs ++ z ∷ []) (sym is))
      ∙ ap (map f) (filter-append p (take i xs) (x ∷ []) ∙ ap (λ b. filter p (take i xs) ++ cond b (x ∷ []) []) e ∙ append-nil _))

-- ---- refutation
-- whether the two rows of a witness agree on x and not on t
abbrev pub tells : Target → ℕ → Witness → Bool
tells t x w = subset x w.agree && not (has_target w.agree t)

list_any-sets : (p : ℕ → Bool) (ws : List Witness) → list_any p (sets_of ws) ≡ list_any (λ w. p w.agree) ws
list_any-sets p [] = refl
list_any-sets p (w ∷ ws) = ap (λ b. p w.agree || b) (list_any-sets p ws)

pub refuted-sets : (ws : List Witness) (t : Target) (x : ℕ) → refuted (sets_of ws) t x ≡ list_any (tells t x) ws
unfolding refuted
refuted-sets ws t x = list_any-sets (λ w. subset x w && not (has_target w t)) ws

pub still_untold : (t : Target) (x : ℕ) (ws : List Witness) (i : ℕ) (w : Witness) → i < length ws → w ≡ get_or ws i w → tells t x w ≡ false
    → list_any (tells t x) (take i ws) ≡ false → list_any (tells t x) (take (i + 1) ws) ≡ false
still_untold t x ws i w l is e none = list_any_more (tells t x) ws i w l ∙ or_from _ _ none (ap (tells t x) (sym is) ∙ e)

pub untold : (t : Target) (x : ℕ) (ws : List Witness) (i : ℕ) → length ws ≤ i → list_any (tells t x) (take i ws) ≡ false → refuted (sets_of ws) t x ≡ false
untold t x ws i l none = refuted-sets ws t x ∙ ap (list_any (tells t x)) (sym (take_all i ws l)) ∙ none

-- a witness in the list that tells
pub told : (t : Target) (x : ℕ) (ws : List Witness) (i : ℕ) (w : Witness) → i < length ws → w ≡ get_or ws i w → tells t x w ≡ true → IsRefutation ws t x w.i w.j
told t x ws i w l is e = let q = and_parts (subset x w.agree) _ e in record { witness = w; listed = (i, l, sym is); first = refl; second = refl; inside = q.0; lacks = not-true _ q.1 }

pub told_refuted : (t : Target) (x : ℕ) (ws : List Witness) (i : ℕ) (w : Witness) → i < length ws → w ≡ get_or ws i w → tells t x w ≡ true → refuted (sets_of ws) t x ≡ true
told_refuted t x ws i w l is e = refuted-sets ws t x ∙ list_any_at (tells t x) ws i w l (ap (tells t x) (sym is) ∙ e)
