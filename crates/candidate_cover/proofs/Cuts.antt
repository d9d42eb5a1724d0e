-- A list that a place cuts in two: what filters, maps and searches give where a test changes at the place.
use Rattle.std.proofs.Common.{◌≡◌, ◌≢◌, ℕ, zero, suc, ◌+◌, ◌<◌, ◌≤◌, Bool, true, false, cond, refl, sym, ap, ap₂, ◌∙◌, arith, List, [], ◌∷◌, ◌++◌, length, get_or, take, drop, set, map, Some, None, drop-cons}
use Rattle.std.specs.List.{filter, find, list_any}
use Rattle.std.proofs.lemmas.List.Folds.{list_any_at}
use Rattle.std.proofs.lemmas.List.{take_more, take_all, take-append-drop}
use Rattle.std.proofs.lemmas.Option.{none-some}

module _ {X : Type 0} where
  -- the test passes below the place alone
  pub kept_front : (p : X → Bool) (xs : List X) (i : ℕ) → ((k : ℕ) (d : X) → k < i → k < length xs → p (get_or xs k d) ≡ true)
      → ((k : ℕ) (d : X) → i ≤ k → k < length xs → p (get_or xs k d) ≡ false) → filter p xs ≡ take i xs
  kept_front p [] zero f g = refl
  kept_front p [] (suc i) f g = refl
  kept_front p (x ∷ xs) zero f g =
      ap (λ b. cond b (x ∷ filter p xs) (filter p xs)) (g 0 x (omega arith) (omega arith)) ∙ kept_front p xs zero (λ k d h l. absurd (omega arith)) (λ k d h l. g (suc k) d (omega arith) (omega arith))
  kept_front p (x ∷ xs) (suc i) f g =
      ap (λ b. cond b (x ∷ filter p xs) (filter p xs)) (f 0 x (omega arith) (omega arith))
      ∙ ap (λ ys. x ∷ ys) (kept_front p xs i (λ k d h l. f (suc k) d (omega arith) (omega arith)) (λ k d h l. g (suc k) d (omega arith) (omega arith)))

  -- the test passes from the place on alone
  pub kept_back : (p : X → Bool) (xs : List X) (i : ℕ) → ((k : ℕ) (d : X) → k < i → k < length xs → p (get_or xs k d) ≡ false)
      → ((k : ℕ) (d : X) → i ≤ k → k < length xs → p (get_or xs k d) ≡ true) → filter p xs ≡ drop i xs
  kept_back p [] zero f g = refl
  kept_back p [] (suc i) f g = refl
  kept_back p (x ∷ xs) zero f g =
      ap (λ b. cond b (x ∷ filter p xs) (filter p xs)) (g 0 x (omega arith) (omega arith))
      ∙ ap (λ ys. x ∷ ys) (kept_back p xs zero (λ k d h l. absurd (omega arith)) (λ k d h l. g (suc k) d (omega arith) (omega arith)))
  kept_back p (x ∷ xs) (suc i) f g =
      ap (λ b. cond b (x ∷ filter p xs) (filter p xs)) (f 0 x (omega arith) (omega arith))
      ∙ kept_back p xs i (λ k d h l. f (suc k) d (omega arith) (omega arith)) (λ k d h l. g (suc k) d (omega arith) (omega arith))

  -- the test passes but at the place
  pub kept_but : (p : X → Bool) (xs : List X) (i : ℕ) → i < length xs → ((d : X) → p (get_or xs i d) ≡ false)
      → ((k : ℕ) (d : X) → k ≢ i → k < length xs → p (get_or xs k d) ≡ true) → filter p xs ≡ take i xs ++ drop (suc i) xs
  kept_but p [] i l f g = absurd (omega arith)
  kept_but p (x ∷ xs) zero l f g =
      ap (λ b. cond b (x ∷ filter p xs) (filter p xs)) (f x) ∙ kept_back p xs zero (λ k d h l. absurd (omega arith)) (λ k d h l. g (suc k) d (omega arith) (omega arith))
  kept_but p (x ∷ xs) (suc i) l f g =
      ap (λ b. cond b (x ∷ filter p xs) (filter p xs)) (g 0 x (omega arith) (omega arith))
      ∙ ap (λ ys. x ∷ ys) (kept_but p xs i (omega arith) f (λ k d h l. g (suc k) d (omega arith) (omega arith)))

  pub kept_all : (p : X → Bool) (xs : List X) → ((k : ℕ) (d : X) → k < length xs → p (get_or xs k d) ≡ true) → filter p xs ≡ xs
  kept_all p [] f = refl
  kept_all p (x ∷ xs) f = ap (λ b. cond b (x ∷ filter p xs) (filter p xs)) (f 0 x (omega arith)) ∙ ap (λ ys. x ∷ ys) (kept_all p xs (λ k d l. f (suc k) d (omega arith)))

  pub map_same : (f : X → X) (xs : List X) → ((k : ℕ) (d : X) → k < length xs → f (get_or xs k d) ≡ get_or xs k d) → xs ≡ map f xs
  map_same f [] g = refl
  map_same f (x ∷ xs) g = ap₂ (λ (z : X) (zs : List X). z ∷ zs) (sym (g 0 x (omega arith))) (map_same f xs (λ k d l. g (suc k) d (omega arith)))

  -- the map changes the element at the place alone
  pub set-map : (f : X → X) (xs : List X) (i : ℕ) (y : X) → i < length xs → ((d : X) → f (get_or xs i d) ≡ y)
      → ((k : ℕ) (d : X) → k ≢ i → k < length xs → f (get_or xs k d) ≡ get_or xs k d) → set xs i y ≡ map f xs
  set-map f [] i y l h g = absurd (omega arith)
  set-map f (x ∷ xs) zero y l h g = ap₂ (λ (z : X) (zs : List X). z ∷ zs) (sym (h x)) (map_same f xs (λ k d l. g (suc k) d (omega arith) (omega arith)))
  set-map f (x ∷ xs) (suc i) y l h g = ap₂ (λ (z : X) (zs : List X). z ∷ zs) (sym (g 0 x (omega arith) (omega arith))) (set-map f xs i y (omega arith) h (λ k d n l. g (suc k) d (omega arith) (omega arith)))

  -- the element at the place is the first that passes
  pub found_at : (p : X → Bool) (xs : List X) (i : ℕ) → i < length xs → ((k : ℕ) (d : X) → k < i → k < length xs → p (get_or xs k d) ≡ false)
      → ((d : X) → p (get_or xs i d) ≡ true) → (d : X) → find p xs ≡ Some (get_or xs i d)
  found_at p [] i l f g d = absurd (omega arith)
  found_at p (x ∷ xs) zero l f g d = ap (λ b. cond b (Some x) (find p xs)) (g x)
  found_at p (x ∷ xs) (suc i) l f g d = ap (λ b. cond b (Some x) (find p xs)) (f 0 x (omega arith) (omega arith)) ∙ found_at p xs i (omega arith) (λ k d h l. f (suc k) d (omega arith) (omega arith)) g d

  pub found_none : (p : X → Bool) (xs : List X) → ((k : ℕ) (d : X) → k < length xs → p (get_or xs k d) ≡ false) → find p xs ≡ None
  found_none p [] f = refl
  found_none p (x ∷ xs) f = ap (λ b. cond b (Some x) (find p xs)) (f 0 x (omega arith)) ∙ found_none p xs (λ k d l. f (suc k) d (omega arith))

  pub any_at : (p : X → Bool) (xs : List X) (i : ℕ) → i < length xs → ((d : X) → p (get_or xs i d) ≡ true) → list_any p xs ≡ true
  any_at p [] i l f = absurd (omega arith)
  any_at p (x ∷ xs) i l f = list_any_at p (x ∷ xs) i x l (f x)

  -- ---- a search from the front
  found_after : (p : X → Bool) (us vs : List X) → find p us ≡ None → find p (us ++ vs) ≡ find p vs
  found_after p [] vs e = refl
  found_after p (u ∷ us) vs e = by (p u) e (λ g. found_after p us vs g)
    where
      by : (b : Bool) → cond b (Some u) (find p us) ≡ None → (find p us ≡ None → find p (us ++ vs) ≡ find p vs) → cond b (Some u) (find p (us ++ vs)) ≡ find p vs
      by true g rest = absurd (none-some u (sym g))
      by false g rest = rest g

  pub not_found_more : (p : X → Bool) (xs : List X) (i : ℕ) (x : X) → i < length xs → x ≡ get_or xs i x → p x ≡ false → find p (take i xs) ≡ None → find p (take (i + 1) xs) ≡ None
  not_found_more p xs i x l is e none =
      ap (find p) (take_more xs i x l ∙ ap (λ z. take i xs ++ z ∷ []) (sym is)) ∙ found_after p (take i xs) (x ∷ []) none ∙ ap (λ b. cond b (Some x) None) e

  pub found_next : (p : X → Bool) (xs : List X) (i : ℕ) (x : X) → i < length xs → x ≡ get_or xs i x → p x ≡ true → find p (take i xs) ≡ None → Some x ≡ find p xs
  found_next p xs i x l is e none = sym (
      ap (find p) (sym (take-append-drop i xs)) ∙ found_after p (take i xs) (drop i xs) none
      ∙ ap (find p) (drop-cons xs i x l ∙ ap (λ z. z ∷ drop (suc i) xs) (sym is)) ∙ ap (λ b. cond b (Some x) (find p (drop (suc i) xs))) e)

  pub found_nowhere : (p : X → Bool) (xs : List X) (i : ℕ) → length xs ≤ i → find p (take i xs) ≡ None → None ≡ find p xs
  found_nowhere p xs i l none = sym none ∙ ap (find p) (take_all i xs l)
