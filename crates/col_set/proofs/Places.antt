-- `Listed` and `Rises` in the words of std's contracts, and that two lists in order with the same members are equal.
use Rattle.std.proofs.Common.{inl, inr, ◌≡◌, ℕ, zero, suc, ◌+◌, ◌<◌, refl, sym, ap, ap₂, ◌∙◌, subst, arith, List, [], ◌∷◌, length, get_or, Ordering, Less, Greater}
use Rattle.std.specs.List.{Contains, AllPairs}
use Rattle.std.specs.List.Sorted.{IsStrictlyIncreasing}
use Rattle.std.specs.Ordering.{ordering_reverse}
use Rattle.std.specs.Cmp.{IsTotalOrder}
use Rattle.std.proofs.lemmas.Cmp.{tied_itself}
use Rattle.col_set.specs.Lists.{Listed, Rises}

module _ {X : Type 0} where
  pub Contains-listed : (x : X) (xs : List X) → Listed x xs → Contains xs x
  Contains-listed x [] h = absurd h
  Contains-listed x (y ∷ xs) (inl e) = (0, omega arith, sym e)
  Contains-listed x (y ∷ xs) (inr h) = let w = Contains-listed x xs h in let l = w.1 in (suc w.0, omega arith, w.2)

  at_place : (xs : List X) (k : ℕ) (x : X) → k < length xs → get_or xs k x ≡ x → Listed x xs
  at_place [] k x l e = absurd (omega arith)
  at_place (y ∷ xs) zero x l e = inl (sym e)
  at_place (y ∷ xs) (suc k) x l e = inr (at_place xs k x (omega arith) e)

  pub Listed-contained : (x : X) (xs : List X) → Contains xs x → Listed x xs
  Listed-contained x xs h = at_place xs h.0 x h.1 h.2

  pub Listed-get_or : (xs : List X) (k : ℕ) (d : X) → k < length xs → Listed (get_or xs k d) xs
  Listed-get_or [] k d l = absurd (omega arith)
  Listed-get_or (y ∷ xs) zero d l = inl refl
  Listed-get_or (y ∷ xs) (suc k) d l = inr (Listed-get_or xs k d (omega arith))

  pub AllPairs-rises : (R : X → X → Ordering) (xs : List X) → Rises R xs → AllPairs (λ x y. R x y ≡ Less) xs
  AllPairs-rises R [] r i j d l h = absurd (omega arith)
  AllPairs-rises R (x ∷ xs) r zero zero d l h = absurd (omega arith)
  AllPairs-rises R (x ∷ xs) r zero (suc j) d l h = r.0 _ (Listed-get_or xs j d (omega arith))
  AllPairs-rises R (x ∷ xs) r (suc i) zero d l h = absurd (omega arith)
  AllPairs-rises R (x ∷ xs) r (suc i) (suc j) d l h = AllPairs-rises R xs r.1 i j d (omega arith) (omega arith)

  -- two lists in order with the same members are equal
  module _ {R : X → X → Ordering} (o : IsTotalOrder R) where
    not_self : (x : X) → R x x ≡ Less → ⊥
    not_self x e = let f = tied_itself o x in cc

    not_both : (x y : X) → R x y ≡ Less → R y x ≡ Less → ⊥
    not_both x y e f = let g : R x y ≡ Greater = o.antisymm x y ∙ ap ordering_reverse f in cc

    heads : (x y : X) (xs ys : List X) → Rises R (x ∷ xs) → Rises R (y ∷ ys) → Listed x (y ∷ ys) → Listed y (x ∷ xs) → x ≡ y
    heads x y xs ys r s (inl e) g = e
    heads x y xs ys r s (inr h) (inl e) = sym e
    heads x y xs ys r s (inr h) (inr g) = absurd (not_both x y (r.0 y g) (s.0 x h))

    tail : (x y : X) (xs ys : List X) → Rises R (x ∷ xs) → x ≡ y → ((z : X) → Listed z (x ∷ xs) → Listed z (y ∷ ys)) → (z : X) → Listed z xs → Listed z ys
    tail x y xs ys r e f z h = by (f z (inr h))
      where
        by : Listed z (y ∷ ys) → Listed z ys
        by (inl i) = absurd (not_self x (subst (λ w. R x w ≡ Less) (i ∙ sym e) (r.0 z h)))
        by (inr g) = g

    pub same_rising : (xs ys : List X) → Rises R xs → Rises R ys → ((x : X) → Listed x xs → Listed x ys) → ((x : X) → Listed x ys → Listed x xs) → xs ≡ ys
    same_rising [] [] r s f g = refl
    same_rising [] (y ∷ ys) r s f g = absurd (g y (inl refl))
    same_rising (x ∷ xs) [] r s f g = absurd (f x (inl refl))
    same_rising (x ∷ xs) (y ∷ ys) r s f g =
        let e = heads x y xs ys r s (f x (inl refl)) (g y (inl refl)) in
        ap₂ (λ (w : X) (ws : List X). w ∷ ws) e (same_rising xs ys r.1 s.1 (tail x y xs ys r e f) (tail y x ys xs s (sym e) g))

-- each number is below each later one
abbrev pub Climbs : List ℕ → Type 0
Climbs [] = Unit {0}
Climbs (x ∷ xs) = ((y : ℕ) → Listed y xs → x < y) × Climbs xs

pub Climbs-increasing : (xs : List ℕ) → IsStrictlyIncreasing xs → Climbs xs
Climbs-increasing [] h = tt
Climbs-increasing (x ∷ []) h = ((λ y g. absurd g), tt)
Climbs-increasing (x ∷ y ∷ xs) h =
    let r = Climbs-increasing (y ∷ xs) (λ k l.
    let e : suc k + 1 ≡ suc (k + 1) = omega arith in
    subst (λ (j : ℕ). get_or (y ∷ xs) k 0 < get_or (x ∷ y ∷ xs) j 0) e (h (suc k) (omega arith))) in
    let l : x < y = h 0 (omega arith) in
    ((λ z g. by l r z g), r)
  where
    by : x < y → Climbs (y ∷ xs) → (z : ℕ) → Listed z (y ∷ xs) → x < z
    by l r z (inl e) = omega arith
    by l r z (inr g) = let m = r.0 z g in omega arith
