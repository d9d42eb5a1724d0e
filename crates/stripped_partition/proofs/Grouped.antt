-- The groups of an ascending list by a symmetric and transitive relation, and lists of groups in order.
use Rattle.std.proofs.Common.{inl, inr, ◌≡◌, ◌≢◌, ◌⊎◌, ℕ, ◌<◌, ◌≤◌, Bool, true, false, cond, leb, refl, sym, ap, ap₂, ◌∙◌, subst, arith, List, [], ◌∷◌, ◌++◌, length, get_or, map}
use Rattle.std.specs.List.{filter}
use Rattle.std.proofs.lemmas.Bool.{eqb-true, eq-eqb, leb-true, le-leb, cases_eq}
use Rattle.std.proofs.lemmas.List.Elements.{filter_agree}
use Rattle.std.proofs.lemmas.Cmp.{nat_cmp_total}
use Rattle.col_set.specs.Lists.{Listed, Listed-append_cases, Listed-filter, Listed-filter_parts, Listed-map, Listed-map_which}
use Rattle.col_set.specs.Subsets.{same_test}
use Rattle.col_set.proofs.Places.{Climbs, Listed-get_or, same_rising}
use Rattle.rel_base.proofs.States.{Rises-Climbs}
use Rattle.rel_base.proofs.Valid.{Climbs-filter}
use Rattle.stripped_partition.specs.Stripped.{group_of, leads, grouped}
use Rattle.stripped_partition.specs.Order.{Ahead, Apart}

-- ---- ascending lists
-- two with the same members are equal
pub same_climbing : (xs ys : List ℕ) → Climbs xs → Climbs ys → ((x : ℕ) → Listed x xs → Listed x ys) → ((x : ℕ) → Listed x ys → Listed x xs) → xs ≡ ys
same_climbing xs ys c d f g = same_rising nat_cmp_total xs ys (Rises-Climbs xs c) (Rises-Climbs ys d) f g

pub record Another (xs : List ℕ) (i : ℕ) : Type 0 where
  pub other : ℕ
  pub listed : Listed other xs
  pub apart : i ≢ other

-- two members or more have one other than i
pub another : (xs : List ℕ) (i : ℕ) → Climbs xs → 2 ≤ length xs → Another xs i
another [] i c l = absurd (omega arith)
another (x ∷ []) i c l = absurd (omega arith)
another (x ∷ y ∷ xs) i c l = by (cases_eq i x)
  where
    by : (i ≡ x) ⊎ (i ≡ x → ⊥) → Another (x ∷ y ∷ xs) i
    by (inl e) = record { other = y; listed = inr (inl refl); apart = λ f. let g = c.0 y (inl refl) in let h : i ≡ y = f in absurd (omega arith) }
    by (inr ne) = record { other = x; listed = inl refl; apart = ne }

-- two different members are two or more
pub two_of : (xs : List ℕ) (i j : ℕ) → Listed i xs → Listed j xs → (i ≢ j) → 2 ≤ length xs
two_of [] i j h g ne = absurd h
two_of (x ∷ []) i j (inl e) (inl f) ne = absurd (ne (e ∙ sym f))
two_of (x ∷ []) i j (inl e) (inr g) ne = absurd g
two_of (x ∷ []) i j (inr h) g ne = absurd h
two_of (x ∷ y ∷ xs) i j h g ne = omega arith

-- the first is the least
pub first_least : (xs : List ℕ) (i : ℕ) → Climbs xs → Listed i xs → get_or xs 0 0 ≤ i
first_least [] i c h = absurd h
first_least (x ∷ xs) i c (inl e) = omega arith
first_least (x ∷ xs) i c (inr h) = let l = c.0 i h in omega arith

-- ---- lists of groups by their first rows
pub Ahead-Apart : (gs : List (List ℕ)) → Ahead gs → Apart gs
Ahead-Apart [] a = tt
Ahead-Apart (g ∷ gs) a = ((λ h l e. let m = a.0 h l in absurd (omega arith)), Ahead-Apart gs a.1)

Ahead-filter : (p : List ℕ → Bool) (gs : List (List ℕ)) → Ahead gs → Ahead (filter p gs)
Ahead-filter p [] a = tt
Ahead-filter p (g ∷ gs) a = by (p g) (Ahead-filter p gs a.1)
  where
    by : (b : Bool) → Ahead (filter p gs) → Ahead (cond b (g ∷ filter p gs) (filter p gs))
    by true r = ((λ h l. a.0 h (Listed-filter_parts p h gs l).0), r)
    by false r = r

pub Apart-append : (gs hs : List (List ℕ)) → Apart gs → Apart hs → ((g h : List ℕ) → Listed g gs → Listed h hs → get_or g 0 0 ≢ get_or h 0 0) → Apart (gs ++ hs)
Apart-append [] hs a b f = b
Apart-append (g ∷ gs) hs a b f =
    ((λ h l. elim (Listed-append_cases h gs hs l) as (λ _. get_or g 0 0 ≢ get_or h 0 0) [ inl m ↦ a.0 h m | inr m ↦ f g h (inl refl) m ]), Apart-append gs hs a.1 b (λ x y l m. f x y (inr l) m))

-- two lists of groups in order with the same groups are equal
heads : (x y : List ℕ) (xs ys : List (List ℕ)) → Ahead (x ∷ xs) → Ahead (y ∷ ys) → Listed x (y ∷ ys) → Listed y (x ∷ xs) → x ≡ y
heads x y xs ys a b (inl e) g = e
heads x y xs ys a b (inr h) (inl e) = sym e
heads x y xs ys a b (inr h) (inr g) = let l = a.0 y g in let m = b.0 x h in absurd (omega arith)

tail : (x y : List ℕ) (xs ys : List (List ℕ)) → Ahead (x ∷ xs) → x ≡ y → ((z : List ℕ) → Listed z (x ∷ xs) → Listed z (y ∷ ys)) → (z : List ℕ) → Listed z xs → Listed z ys
tail x y xs ys a e f z h = by (f z (inr h))
  where
    by : Listed z (y ∷ ys) → Listed z ys
    by (inl i) = let l = a.0 z h in let m : get_or x 0 0 ≡ get_or z 0 0 = ap (λ (w : List ℕ). get_or w 0 0) (e ∙ sym i) in absurd (omega arith)
    by (inr g) = g

pub same_ahead : (gs hs : List (List ℕ)) → Ahead gs → Ahead hs → ((g : List ℕ) → Listed g gs → Listed g hs) → ((g : List ℕ) → Listed g hs → Listed g gs) → gs ≡ hs
same_ahead [] [] a b f g = refl
same_ahead [] (y ∷ ys) a b f g = absurd (g y (inl refl))
same_ahead (x ∷ xs) [] a b f g = absurd (f x (inl refl))
same_ahead (x ∷ xs) (y ∷ ys) a b f g =
    let e = heads x y xs ys a b (f x (inl refl)) (g y (inl refl)) in
    ap₂ (λ (w : List ℕ) (ws : List (List ℕ)). w ∷ ws) e (same_ahead xs ys a.1 b.1 (tail x y xs ys a e f) (tail y x ys xs b (sym e) g))

-- ---- groups
pub record IsSame (same : ℕ → ℕ → Bool) : Type 0 where
  pub symm : (i j : ℕ) → same i j ≡ true → same j i ≡ true
  pub trans : (i j k : ℕ) → same i j ≡ true → same j k ≡ true → same i k ≡ true

-- a group is that of its first row
pub record GroupOf (same : ℕ → ℕ → Bool) (rows g : List ℕ) : Type 0 where
  pub row : ℕ
  pub listed : Listed row rows
  pub is : g ≡ group_of same rows row
  pub two : 2 ≤ length g
  pub first : get_or g 0 0 ≡ row

module _ (same : ℕ → ℕ → Bool) (is : IsSame same) (rows : List ℕ) where
  pub group_same : (i j : ℕ) → same i j ≡ true → group_of same rows i ≡ group_of same rows j
  group_same i j e = filter_agree (same i) (same j) (λ k. same_test _ _ (λ h. is.trans j i k (is.symm i j e) h) (λ h. is.trans i j k e h)) rows

  pub Listed-grouped_parts : (g : List ℕ) → Listed g (grouped same rows) → GroupOf same rows g
  unfolding grouped
  Listed-grouped_parts g h =
      let w = Listed-filter_parts (λ group. leb 2 (length group)) g (map (group_of same rows) (filter (leads same rows) rows)) h in
      let v = Listed-map_which (group_of same rows) g (filter (leads same rows) rows) w.0 in
      let u = Listed-filter_parts (leads same rows) v.0 rows v.1 in
      record { row = v.0; listed = u.0; is = v.2; two = leb-true 2 _ w.1; first = ap (λ (xs : List ℕ). get_or xs 0 0) v.2 ∙ eqb-true _ _ u.1 }

  pub Listed-grouped : (i : ℕ) → Listed i rows → 2 ≤ length (group_of same rows i) → Listed (group_of same rows i) (grouped same rows)
  unfolding grouped
  Listed-grouped i h two =
      let g : List ℕ = group_of same rows i in
      let l : 0 < length g = omega arith in
      let m = Listed-filter_parts (same i) (get_or g 0 0) rows (Listed-get_or g 0 0 l) in
      let e : group_of same rows (get_or g 0 0) ≡ g = sym (group_same i (get_or g 0 0) m.1) in
      Listed-filter (λ group. leb 2 (length group)) g (map (group_of same rows) (filter (leads same rows) rows))
      (subst (λ (x : List ℕ). Listed x (map (group_of same rows) (filter (leads same rows) rows))) e (Listed-map (group_of same rows) (get_or g 0 0) (filter (leads same rows) rows)
      (Listed-filter (leads same rows) (get_or g 0 0) rows m.0 (eq-eqb _ _ (ap (λ (xs : List ℕ). get_or xs 0 0) e)))))
      (le-leb 2 (length g) two)

  -- a row of a group has that group
  pub group_is : (g : List ℕ) (i : ℕ) → GroupOf same rows g → Listed i g → g ≡ group_of same rows i
  group_is g i of h = of.is ∙ group_same of.row i (Listed-filter_parts (same of.row) i rows (subst (Listed i) of.is h)).1

  -- two groups of different first rows have no row in common
  pub group_apart : (g h : List ℕ) (i : ℕ) → GroupOf same rows g → GroupOf same rows h → Listed i g → Listed i h → g ≡ h
  group_apart g h i of to l m = group_is g i of l ∙ sym (group_is h i to m)

  Ahead-map : (is : List ℕ) → Climbs is → ((i : ℕ) → Listed i is → leads same rows i ≡ true) → Ahead (map (group_of same rows) is)
  Ahead-map [] c f = tt
  Ahead-map (i ∷ is) c f = (
    (λ h l. let w = Listed-map_which (group_of same rows) h is l in
        let a = eqb-true (get_or (group_of same rows i) 0 0) i (f i (inl refl)) in
        let b = ap (λ (xs : List ℕ). get_or xs 0 0) w.2 ∙ eqb-true (get_or (group_of same rows w.0) 0 0) w.0 (f w.0 (inr w.1)) in
        let m = c.0 w.0 w.1 in omega arith),
    Ahead-map is c.1 (λ j l. f j (inr l)),
  )

  pub Ahead-grouped : Climbs rows → Ahead (grouped same rows)
  unfolding grouped
  Ahead-grouped up = Ahead-filter (λ group. leb 2 (length group)) (map (group_of same rows) (filter (leads same rows) rows))
      (Ahead-map (filter (leads same rows) rows) (Climbs-filter (leads same rows) rows up) (λ i l. (Listed-filter_parts (leads same rows) i rows l).1))
