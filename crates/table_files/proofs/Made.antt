-- Lists that several threads made.
use Rattle.std.proofs.Common.{◌≡◌, refl, sym, ap₂, subst, List, [], ◌∷◌, map, Result, Ok, Err, IfOk, MatchResult, Vec, Global}
use Rattle.std.specs.List.{All, AllZip, Contains}
use Rattle.std.specs.declared.alloc.AllocError.{AllocError}
use Rattle.std.proofs.lemmas.List.Elements.{All-cons, All-nil}

module _ {X Y : Type 0} (R : X → Y → Type 0) where
  zipped : (xs : List X) (ys : List Y) → AllZip (λ (x : X) (r : Result Y AllocError). IfOk r (R x)) xs (map (λ y. Ok y) ys) → AllZip R xs ys
  zipped [] [] h = tt
  zipped [] (y ∷ ys) h = absurd h
  zipped (x ∷ xs) [] h = absurd h
  zipped (x ∷ xs) (y ∷ ys) h = (h.0, zipped xs ys h.1)

  -- each that was made is one for its element, where all were made
  pub each_made : (xs : List X) (made : List (Result Y AllocError)) (r : Result (Vec Y Global) AllocError)
      → AllZip (λ (x : X) (r : Result Y AllocError). IfOk r (R x)) xs made
      → MatchResult r (λ v. (ys : List Y) × (made ≡ map (λ y. Ok y) ys) × (v.items ≡ ys)) (λ e. Contains made (Err e)) → IfOk r (λ v. AllZip R xs v.items)
  each_made xs made (Ok v) all h = subst (AllZip R xs) (sym h.2) (zipped xs h.0 (subst (λ (rs : List (Result Y AllocError)). AllZip (λ (x : X) (r : Result Y AllocError). IfOk r (R x)) xs rs) h.1 all))
  each_made xs made (Err e) all h = tt

module _ {X Y : Type 0} (P : Y → Type 0) (f : Y → X) where
  -- made of each of a list, with a property, and with the element told by what was made
  pub all_of : (xs : List X) (ys : List Y) → AllZip (λ x y. P y × (f y ≡ x)) xs ys → All P ys
  all_of [] [] h = All-nil P
  all_of [] (y ∷ ys) h = absurd h
  all_of (x ∷ xs) [] h = absurd h
  all_of (x ∷ xs) (y ∷ ys) h = All-cons P y ys h.0.0 (all_of xs ys h.1)

  pub told_of : (xs : List X) (ys : List Y) → AllZip (λ x y. P y × (f y ≡ x)) xs ys → map f ys ≡ xs
  told_of [] [] h = refl
  told_of [] (y ∷ ys) h = absurd h
  told_of (x ∷ xs) [] h = absurd h
  told_of (x ∷ xs) (y ∷ ys) h = ap₂ (λ (z : X) (zs : List X). z ∷ zs) h.0.1 (told_of xs ys h.1)

module _ {X Y : Type 0} (f : X → Y) where
  -- made of each by a function
  pub map_of : (xs : List X) (ys : List Y) → AllZip (λ x y. y ≡ f x) xs ys → ys ≡ map f xs
  map_of [] [] h = refl
  map_of [] (y ∷ ys) h = absurd h
  map_of (x ∷ xs) [] h = absurd h
  map_of (x ∷ xs) (y ∷ ys) h = ap₂ (λ (z : Y) (zs : List Y). z ∷ zs) h.0 (map_of xs ys h.1)
