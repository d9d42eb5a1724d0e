-- Lists that are filtered, mapped and joined.
use Rattle.std.proofs.Common.{inl, inr, ◌≡◌, ℕ, ◌+◌, zero, suc, Bool, true, false, cond, refl, sym, ap, ap₂, ◌∙◌, arith, List, [], ◌∷◌, ◌++◌, map}
use Rattle.std.specs.List.{filter, flat_map, range_with_len}
use Rattle.std.proofs.lemmas.List.{map-append}
use Rattle.std.proofs.lemmas.List.Concat.{flat_map-append}
use Rattle.std.proofs.lemmas.List.Elements.{filter-append}
use Rattle.col_set.specs.Lists.{Listed}

module _ {X Y : Type 0} where
  pub filter-map : (p : Y → Bool) (f : X → Y) (xs : List X) → filter p (map f xs) ≡ map f (filter (λ x. p (f x)) xs)
  filter-map p f [] = refl
  filter-map p f (x ∷ xs) = by (p (f x)) (filter-map p f xs)
    where
      by : (b : Bool) → filter p (map f xs) ≡ map f (filter (λ x. p (f x)) xs)
          → cond b (f x ∷ filter p (map f xs)) (filter p (map f xs)) ≡ map f (cond b (x ∷ filter (λ x. p (f x)) xs) (filter (λ x. p (f x)) xs))
      by true e = ap (λ (ys : List Y). f x ∷ ys) e
      by false e = e

  pub filter-flat : (p : Y → Bool) (f : X → List Y) (xs : List X) → filter p (flat_map f xs) ≡ flat_map (λ x. filter p (f x)) xs
  filter-flat p f [] = refl
  filter-flat p f (x ∷ xs) = filter-append p (f x) (flat_map f xs) ∙ ap (λ (ys : List Y). filter p (f x) ++ ys) (filter-flat p f xs)

  pub flat_same : (f g : X → List Y) (xs : List X) → ((x : X) → Listed x xs → f x ≡ g x) → flat_map f xs ≡ flat_map g xs
  flat_same f g [] e = refl
  flat_same f g (x ∷ xs) e = ap₂ (λ (ys zs : List Y). ys ++ zs) (e x (inl refl)) (flat_same f g xs (λ z h. e z (inr h)))

  -- what is left out adds nothing
  pub flat-filter : (f : X → List Y) (p : X → Bool) (xs : List X) → ((x : X) → Listed x xs → p x ≡ false → f x ≡ []) → flat_map f (filter p xs) ≡ flat_map f xs
  flat-filter f p [] e = refl
  flat-filter f p (x ∷ xs) e = by (p x) refl (flat-filter f p xs (λ z h. e z (inr h)))
    where
      by : (b : Bool) → p x ≡ b → flat_map f (filter p xs) ≡ flat_map f xs → flat_map f (cond b (x ∷ filter p xs) (filter p xs)) ≡ f x ++ flat_map f xs
      by true i rest = ap (λ (ys : List Y). f x ++ ys) rest
      by false i rest = rest ∙ ap (λ (ys : List Y). ys ++ flat_map f xs) (sym (e x (inl refl) i))

  pub map-same : (f g : X → Y) (xs : List X) → ((x : X) → Listed x xs → f x ≡ g x) → map f xs ≡ map g xs
  map-same f g [] e = refl
  map-same f g (x ∷ xs) e = ap₂ (λ (y : Y) (ys : List Y). y ∷ ys) (e x (inl refl)) (map-same f g xs (λ z h. e z (inr h)))

module _ {X Y Z : Type 0} where
  pub flat-flat : (f : Y → List Z) (g : X → List Y) (xs : List X) → flat_map f (flat_map g xs) ≡ flat_map (λ x. flat_map f (g x)) xs
  flat-flat f g [] = refl
  flat-flat f g (x ∷ xs) = flat_map-append f (g x) (flat_map g xs) ∙ ap (λ (zs : List Z). flat_map f (g x) ++ zs) (flat-flat f g xs)

  pub flat-map : (f : Y → List Z) (g : X → Y) (xs : List X) → flat_map f (map g xs) ≡ flat_map (λ x. f (g x)) xs
  flat-map f g [] = refl
  flat-map f g (x ∷ xs) = ap (λ (zs : List Z). f (g x) ++ zs) (flat-map f g xs)

  pub map-flat : (f : Y → Z) (g : X → List Y) (xs : List X) → map f (flat_map g xs) ≡ flat_map (λ x. map f (g x)) xs
  map-flat f g [] = refl
  map-flat f g (x ∷ xs) = map-append f (g x) (flat_map g xs) ∙ ap (λ (zs : List Z). map f (g x) ++ zs) (map-flat f g xs)

module _ {X : Type 0} (p : X → Bool) where
  pub filter-none : (xs : List X) → ((x : X) → Listed x xs → p x ≡ false) → filter p xs ≡ []
  filter-none [] e = refl
  filter-none (x ∷ xs) e = ap (λ b. cond b (x ∷ filter p xs) (filter p xs)) (e x (inl refl)) ∙ filter-none xs (λ z h. e z (inr h))

  pub filter-all : (xs : List X) → ((x : X) → Listed x xs → p x ≡ true) → filter p xs ≡ xs
  filter-all [] e = refl
  filter-all (x ∷ xs) e = ap (λ b. cond b (x ∷ filter p xs) (filter p xs)) (e x (inl refl)) ∙ ap (λ (ys : List X). x ∷ ys) (filter-all xs (λ z h. e z (inr h)))

pub not-so : (b : Bool) → (b ≡ true → ⊥) → b ≡ false
not-so true f = absurd (f refl)
not-so false f = refl

-- one number more
range_more : (n a : ℕ) → range_with_len a (n + 1) ≡ range_with_len a n ++ (a + n) ∷ []
range_more zero a = ap (λ (i : ℕ). i ∷ []) (omega arith)
range_more (suc n) a =
    let e : suc n + 1 ≡ suc (n + 1) = omega arith in
    let f : a + 1 + n ≡ a + suc n = omega arith in
    ap (range_with_len a) e ∙ ap (λ is. a ∷ is) (range_more n (a + 1)) ∙ ap (λ (i : ℕ). (a ∷ range_with_len (a + 1) n) ++ i ∷ []) f

pub upto_more : (n : ℕ) → range_with_len 0 (n + 1) ≡ range_with_len 0 n ++ n ∷ []
upto_more n = let e : 0 + n ≡ n = omega arith in range_more n 0 ∙ ap (λ (i : ℕ). range_with_len 0 n ++ i ∷ []) e
