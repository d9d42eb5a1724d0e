-- How many members of an ascending list stand between two of them.
use Rattle.std.proofs.Common.{inl, inr, ◌≡◌, ℕ, zero, suc, ◌+◌, ◌<◌, Bool, true, false, cond, ◌&&◌, ltb, refl, ap, ◌∙◌, arith, List, [], ◌∷◌, length, get_or}
use Rattle.std.specs.List.{filter}
use Rattle.std.proofs.lemmas.Bool.{lt-ltb, le-ltb, cases_order}
use Rattle.col_set.specs.Lists.{Listed, filter_same}
use Rattle.col_set.proofs.Places.{Climbs, Listed-get_or}

-- ---- filters
and-true : (a : Bool) → a ≡ (a && true)
and-true true = refl
and-true false = refl

and-false : (a : Bool) → false ≡ (a && false)
and-false true = refl
and-false false = refl

pub filter_filter : (p q : ℕ → Bool) (xs : List ℕ) → filter p (filter q xs) ≡ filter (λ x. p x && q x) xs
filter_filter p q [] = refl
filter_filter p q (x ∷ xs) = by (q x) (filter_filter p q xs)
  where
    by : (b : Bool) → filter p (filter q xs) ≡ filter (λ y. p y && q y) xs → filter p (cond b (x ∷ filter q xs) (filter q xs)) ≡ cond (p x && b) (x ∷ filter (λ y. p y && q y) xs) (filter (λ y. p y && q y) xs)
    by true e = ap (λ (ys : List ℕ). cond (p x) (x ∷ ys) ys) e ∙ ap (λ b. cond b (x ∷ filter (λ y. p y && q y) xs) (filter (λ y. p y && q y) xs)) (and-true (p x))
    by false e = e ∙ ap (λ b. cond b (x ∷ filter (λ y. p y && q y) xs) (filter (λ y. p y && q y) xs)) (and-false (p x))

pub none_passes : (p : ℕ → Bool) (xs : List ℕ) → ((x : ℕ) → Listed x xs → p x ≡ false) → filter p xs ≡ []
none_passes p [] f = refl
none_passes p (x ∷ xs) f = ap (λ b. cond b (x ∷ filter p xs) (filter p xs)) (f x (inl refl)) ∙ none_passes p xs (λ y h. f y (inr h))

-- ---- places
-- as many members are smaller as stand before
smaller : (xs : List ℕ) (k : ℕ) → Climbs xs → k < length xs → length (filter (λ y. ltb y (get_or xs k 0)) xs) ≡ k
smaller [] k c l = absurd (omega arith)
smaller (x ∷ xs) zero c l =
    ap length (none_passes (λ y. ltb y x) (x ∷ xs) (λ y h. elim h as (λ _. ltb y x ≡ false) [ inl e ↦ le-ltb y x (omega arith) | inr g ↦ let m = c.0 y g in le-ltb y x (omega arith) ]))
smaller (x ∷ xs) (suc k) c l =
    let m = c.0 (get_or xs k 0) (Listed-get_or xs k 0 (omega arith)) in
    ap (λ b. length (cond b (x ∷ filter (λ y. ltb y (get_or xs k 0)) xs) (filter (λ y. ltb y (get_or xs k 0)) xs))) (lt-ltb x (get_or xs k 0) m)
    ∙ ap suc (smaller xs k c.1 (omega arith))

-- as many stand between two members as between their places
pub between_places : (xs : List ℕ) (a b : ℕ) → Climbs xs → a < b → b < length xs → length (filter (λ y. ltb (get_or xs a 0) y && ltb y (get_or xs b 0)) xs) + 1 + a ≡ b
between_places [] a b c m l = absurd (omega arith)
between_places (x ∷ xs) zero zero c m l = absurd (omega arith)
between_places (x ∷ xs) zero (suc b) c m l =
    let j = get_or xs b 0 in
    let e : filter (λ y. ltb x y && ltb y j) (x ∷ xs) ≡ filter (λ y. ltb y j) xs =
    ap (λ b. cond (b && ltb x j) (x ∷ filter (λ y. ltb x y && ltb y j) xs) (filter (λ y. ltb x y && ltb y j) xs)) (le-ltb x x (omega arith))
    ∙ filter_same (λ y. ltb x y && ltb y j) (λ y. ltb y j) xs (λ y h. ap (λ b. b && ltb y j) (lt-ltb x y (c.0 y h))) in
    let n = ap length e ∙ smaller xs b c.1 (omega arith) in
    omega arith
between_places (x ∷ xs) (suc a) zero c m l = absurd (omega arith)
between_places (x ∷ xs) (suc a) (suc b) c m l =
    let i = get_or xs a 0 in let j = get_or xs b 0 in
    let w = c.0 i (Listed-get_or xs a 0 (omega arith)) in
    let e : filter (λ y. ltb i y && ltb y j) (x ∷ xs) ≡ filter (λ y. ltb i y && ltb y j) xs =
    ap (λ b. cond (b && ltb x j) (x ∷ filter (λ y. ltb i y && ltb y j) xs) (filter (λ y. ltb i y && ltb y j) xs)) (le-ltb i x (omega arith)) in
    let n = ap length e in let r = between_places xs a b c.1 (omega arith) (omega arith) in
    omega arith

-- members stand as they ascend
pub climbs_to : (xs : List ℕ) (a b : ℕ) → Climbs xs → a < b → b < length xs → get_or xs a 0 < get_or xs b 0
climbs_to [] a b c m l = absurd (omega arith)
climbs_to (x ∷ xs) zero zero c m l = absurd (omega arith)
climbs_to (x ∷ xs) zero (suc b) c m l = c.0 (get_or xs b 0) (Listed-get_or xs b 0 (omega arith))
climbs_to (x ∷ xs) (suc a) zero c m l = absurd (omega arith)
climbs_to (x ∷ xs) (suc a) (suc b) c m l = climbs_to xs a b c.1 (omega arith) (omega arith)

pub place_below : (xs : List ℕ) (a b : ℕ) → Climbs xs → a < length xs → get_or xs a 0 < get_or xs b 0 → b < length xs → a < b
place_below xs a b c k m l = elim (cases_order a b) as (λ _. a < b) [ inl e ↦ let f = ap (λ n. get_or xs n 0) e in absurd (omega arith) | inr (inl h) ↦ h | inr (inr g) ↦ let w = climbs_to xs b a c g k in absurd (omega arith) ]

pub same_place : (xs : List ℕ) (a b : ℕ) → Climbs xs → a < length xs → b < length xs → get_or xs a 0 ≡ get_or xs b 0 → a ≡ b
same_place xs a b c k l e = elim (cases_order a b) as (λ _. a ≡ b) [ inl f ↦ f | inr (inl h) ↦ let w = climbs_to xs a b c h l in absurd (omega arith) | inr (inr g) ↦ let w = climbs_to xs b a c g k in absurd (omega arith) ]
