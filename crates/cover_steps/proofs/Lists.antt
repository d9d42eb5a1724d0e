-- Lists: what a search finds, and elements that are pairwise apart.
use Rattle.std.proofs.Common.{inl, inr, ◌≡◌, ◌⊎◌, zero, suc, Bool, true, false, cond, refl, sym, ap, ap₂, ◌∙◌, subst, arith, List, [], ◌∷◌, ◌++◌, map, Some, None}
use Rattle.std.specs.List.{AllPairs, find, flat_map}
use Rattle.col_set.specs.Lists.{Listed}
use Rattle.col_set.proofs.Places.{Contains-listed, Listed-get_or}

-- each element with each later one
abbrev pub Pairwise : {X : Type 0} → (X → X → Type 0) → List X → Type 0
Pairwise R [] = Unit {0}
Pairwise {X} R (x ∷ xs) = ((y : X) → Listed y xs → R x y) × Pairwise R xs

module _ {X : Type 0} where
  pub AllPairs-Pairwise : (R : X → X → Type 0) (xs : List X) → Pairwise R xs → AllPairs R xs
  AllPairs-Pairwise R [] r i j d l h = absurd (omega arith)
  AllPairs-Pairwise R (x ∷ xs) r zero zero d l h = absurd (omega arith)
  AllPairs-Pairwise R (x ∷ xs) r zero (suc j) d l h = r.0 _ (Listed-get_or xs j d (omega arith))
  AllPairs-Pairwise R (x ∷ xs) r (suc i) zero d l h = absurd (omega arith)
  AllPairs-Pairwise R (x ∷ xs) r (suc i) (suc j) d l h = AllPairs-Pairwise R xs r.1 i j d (omega arith) (omega arith)

  pub Pairwise-AllPairs : (R : X → X → Type 0) (xs : List X) → AllPairs R xs → Pairwise R xs
  Pairwise-AllPairs R [] a = tt
  Pairwise-AllPairs R (x ∷ xs) a =
      ((λ y h. let w = Contains-listed y xs h in let l = w.1 in subst (R x) w.2 (a zero (suc w.0) y (omega arith) (omega arith))), Pairwise-AllPairs R xs (λ i j d l h. a (suc i) (suc j) d (omega arith) (omega arith)))

  pub Pairwise-append_one : (R : X → X → Type 0) (xs : List X) (y : X) → Pairwise R xs → ((x : X) → Listed x xs → R x y) → Pairwise R (xs ++ y ∷ [])
  Pairwise-append_one R [] y r f = ((λ z h. absurd h), tt)
  Pairwise-append_one R (x ∷ xs) y r f = ((λ z h. by z (split z xs h)), Pairwise-append_one R xs y r.1 (λ z h. f z (inr h)))
    where
      split : (z : X) (xs : List X) → Listed z (xs ++ y ∷ []) → Listed z xs ⊎ (z ≡ y)
      split z [] (inl e) = inr e
      split z [] (inr h) = absurd h
      split z (v ∷ xs) (inl e) = inl (inl e)
      split z (v ∷ xs) (inr h) = elim (split z xs h) as (λ _. Listed z (v ∷ xs) ⊎ (z ≡ y)) [ inl g ↦ inl (inr g) | inr e ↦ inr e ]

      by : (z : X) → Listed z xs ⊎ (z ≡ y) → R x z
      by z (inl h) = r.0 z h
      by z (inr e) = subst (R x) (sym e) (f x (inl refl))

  pub find-Some : (p : X → Bool) (xs : List X) (x : X) → find p xs ≡ Some x → Listed x xs × (p x ≡ true)
  find-Some p [] x e = absurd (cc)
  find-Some p (y ∷ xs) x e = by (p y) refl e (λ g. find-Some p xs x g)
    where
      by : (b : Bool) → p y ≡ b → cond b (Some y) (find p xs) ≡ Some x → (find p xs ≡ Some x → Listed x xs × (p x ≡ true)) → Listed x (y ∷ xs) × (p x ≡ true)
      by true i g rest = let same : x ≡ y = cc in (inl same, ap p same ∙ i)
      by false i g rest = let w = rest g in (inr w.0, w.1)

  pub find-None : (p : X → Bool) (xs : List X) (x : X) → find p xs ≡ None → Listed x xs → p x ≡ false
  find-None p [] x e h = absurd h
  find-None p (y ∷ xs) x e h = by (p y) refl e h (λ g i. find-None p xs x g i)
    where
      by : (b : Bool) → p y ≡ b → cond b (Some y) (find p xs) ≡ None → Listed x (y ∷ xs) → (find p xs ≡ None → Listed x xs → p x ≡ false) → p x ≡ false
      by true i g l rest = absurd (cc)
      by false i g (inl same) rest = ap p same ∙ i
      by false i g (inr l) rest = rest g l

module _ {X Y : Type 0} where
  pub flat_map_same : (f g : X → List Y) (xs : List X) → ((x : X) → Listed x xs → f x ≡ g x) → flat_map f xs ≡ flat_map g xs
  flat_map_same f g [] e = refl
  flat_map_same f g (x ∷ xs) e = ap₂ (λ (a b : List Y). a ++ b) (e x (inl refl)) (flat_map_same f g xs (λ y h. e y (inr h)))

  pub map_same_listed : (f g : X → Y) (xs : List X) → ((x : X) → Listed x xs → f x ≡ g x) → map f xs ≡ map g xs
  map_same_listed f g [] e = refl
  map_same_listed f g (x ∷ xs) e = ap₂ (λ (a : Y) (b : List Y). a ∷ b) (e x (inl refl)) (map_same_listed f g xs (λ y h. e y (inr h)))

pub map_map : {X Y Z : Type 0} (f : Y → Z) (g : X → Y) (xs : List X) → map f (map g xs) ≡ map (λ x. f (g x)) xs
map_map f g [] = refl
map_map {X} {Y} {Z} f g (x ∷ xs) = ap (λ (zs : List Z). f (g x) ∷ zs) (map_map f g xs)

pub map_itself : {X : Type 0} (f : X → X) (xs : List X) → ((x : X) → f x ≡ x) → map f xs ≡ xs
map_itself f [] e = refl
map_itself {X} f (x ∷ xs) e = ap₂ (λ (a : X) (b : List X). a ∷ b) (e x) (map_itself f xs e)
