-- How many rows follow another one of their group.
use Rattle.std.proofs.Common.{inl, inr, ◌≡◌, ◌≢◌, ◌⊎◌, ℕ, suc, ◌+◌, ◌<◌, ◌≤◌, Bool, true, false, cond, ◌&&◌, eqb, ltb, refl, sym, ap, ◌∙◌, subst, arith, le_antisymm, List, [], ◌∷◌, ◌++◌, length, get_or, drop}
use Rattle.std.specs.List.{filter, flat_map, list_any, sum_by}
use Rattle.std.proofs.lemmas.Bool.{false≢true, eqb-true, eq-eqb, ltb-true, lt-ltb, and_parts, and_from}
use Rattle.std.proofs.lemmas.List.{length-append}
use Rattle.std.proofs.lemmas.List.Sums.{sum_by-cons}
use Rattle.col_set.specs.Lists.{Listed, Listed-append_cases, Listed-filter, Listed-filter_parts, Listed-flat_map, Listed-flat_map_which, list_any_at, list_any_which}
use Rattle.col_set.proofs.Places.{Climbs}
use Rattle.rel_base.proofs.Valid.{Climbs-filter}
use Rattle.stripped_partition.specs.Stripped.{group_of, grouped, error_of}
use Rattle.stripped_partition.specs.Order.{Apart}
use Rattle.stripped_partition.proofs.Grouped.{first_least, two_of, IsSame, GroupOf, Listed-grouped_parts, Listed-grouped, group_apart, Ahead-Apart, Ahead-grouped}
use Rattle.stripped_partition.proofs.Firsts.{Once, Once-filter}

-- ---- lists that have each member once
pub Climbs-Once : (xs : List ℕ) → Climbs xs → Once xs
Climbs-Once [] c = tt
Climbs-Once (x ∷ xs) c = ((λ h. let l = c.0 x h in absurd (omega arith)), Climbs-Once xs c.1)

pub Once-append : {X : Type 0} (xs ys : List X) → Once xs → Once ys → ((x : X) → Listed x xs → Listed x ys → ⊥) → Once (xs ++ ys)
Once-append [] ys o p f = p
Once-append (x ∷ xs) ys o p f =
    ((λ h. elim (Listed-append_cases x xs ys h) as (λ _. ⊥) [ inl g ↦ o.0 g | inr g ↦ f x (inl refl) g ]), Once-append xs ys o.1 p (λ z h g. f z (inr h) g))

abbrev less : ℕ → List ℕ → List ℕ
less x [] = []
less x (y ∷ ys) = cond (eqb x y) ys (y ∷ less x ys)

length-less : (x : ℕ) (ys : List ℕ) → Listed x ys → suc (length (less x ys)) ≡ length ys
length-less x [] h = absurd h
length-less x (y ∷ ys) (inl e) = ap (λ b. suc (length (cond b ys (y ∷ less x ys)))) (eq-eqb x y e)
length-less x (y ∷ ys) (inr h) = by (eqb x y) (length-less x ys h)
  where
    by : (b : Bool) → suc (length (less x ys)) ≡ length ys → suc (length (cond b ys (y ∷ less x ys))) ≡ suc (length ys)
    by true e = refl
    by false e = ap suc e

Listed-less : (x z : ℕ) (ys : List ℕ) → Listed z ys → (z ≢ x) → Listed z (less x ys)
Listed-less x z [] h ne = absurd h
Listed-less x z (y ∷ ys) (inl e) ne = by (eqb x y) refl
  where
    by : (b : Bool) → eqb x y ≡ b → Listed z (cond b ys (y ∷ less x ys))
    by true f = absurd (ne (e ∙ sym (eqb-true x y f)))
    by false f = inl e
Listed-less x z (y ∷ ys) (inr h) ne = by (eqb x y) (Listed-less x z ys h ne)
  where
    by : (b : Bool) → Listed z (less x ys) → Listed z (cond b ys (y ∷ less x ys))
    by true l = h
    by false l = inr l

-- such a list is no longer than one that has its members
pub Once-length : (xs ys : List ℕ) → Once xs → ((x : ℕ) → Listed x xs → Listed x ys) → length xs ≤ length ys
Once-length [] ys o f = omega arith
Once-length (x ∷ xs) ys o f =
    let e = length-less x ys (f x (inl refl)) in
    let l = Once-length xs (less x ys) o.1 (λ z h. Listed-less x z ys (f z (inr h)) (λ d. o.0 (subst (λ (w : ℕ). Listed w xs) d h))) in
    omega arith

-- ---- filters
pub filter-le : {X : Type 0} (p q : X → Bool) (xs : List X) → ((x : X) → Listed x xs → q x ≡ true → p x ≡ true) → length (filter q xs) ≤ length (filter p xs)
filter-le p q [] f = omega arith
filter-le p q (x ∷ xs) f = by (p x) (q x) (f x (inl refl)) (filter-le p q xs (λ z h. f z (inr h)))
  where
    by : (a b : Bool) → (b ≡ true → a ≡ true) → length (filter q xs) ≤ length (filter p xs) → length (cond b (x ∷ filter q xs) (filter q xs)) ≤ length (cond a (x ∷ filter p xs) (filter p xs))
    by true true g l = omega arith
    by true false g l = omega arith
    by false true g l = absurd (false≢true (g refl))
    by false false g l = l

-- a stronger test that passes as many passes the same
pub filter_same_length : {X : Type 0} (p q : X → Bool) (xs : List X) → ((x : X) → Listed x xs → q x ≡ true → p x ≡ true) → length (filter q xs) ≡ length (filter p xs) → (x : X) → Listed x xs → p x ≡ true → q x ≡ true
filter_same_length p q [] f e x h g = absurd h
filter_same_length {X} p q (y ∷ xs) f e x h g = by (p y) refl (q y) refl e (f y (inl refl)) (filter-le p q xs (λ z l. f z (inr l))) (λ d l. filter_same_length p q xs (λ z l. f z (inr l)) d x l g) h
  where
    by : (a : Bool) → p y ≡ a → (b : Bool) → q y ≡ b → length (cond b (y ∷ filter q xs) (filter q xs)) ≡ length (cond a (y ∷ filter p xs) (filter p xs)) → (b ≡ true → a ≡ true) → length (filter q xs) ≤ length (filter p xs)
        → (length (filter q xs) ≡ length (filter p xs) → Listed x xs → q x ≡ true) → (x ≡ y) ⊎ Listed x xs → q x ≡ true
    by true i true j d k l rest (inl s) = ap q s ∙ j
    by true i true j d k l rest (inr m) = rest (omega arith) m
    by true i false j d k l rest m = absurd (omega arith)
    by false i true j d k l rest m = absurd (false≢true (k refl))
    by false i false j d k l rest (inl s) = absurd (false≢true (sym i ∙ sym (ap p s) ∙ g))
    by false i false j d k l rest (inr m) = rest d m

-- ---- the rows that follow another one of their group
abbrev pub follows : (ℕ → ℕ → Bool) → List ℕ → ℕ → Bool
follows same rows j = list_any (λ i. ltb i j && same i j) rows

tail_parts : (g : List ℕ) (j : ℕ) → Climbs g → Listed j (drop 1 g) → Listed j g × (get_or g 0 0 < j)
tail_parts [] j c h = absurd h
tail_parts (x ∷ g) j c h = (inr h, c.0 j h)

tail_from : (g : List ℕ) (j : ℕ) → Listed j g → get_or g 0 0 < j → Listed j (drop 1 g)
tail_from [] j h l = absurd h
tail_from (x ∷ g) j (inl e) l = absurd (omega arith)
tail_from (x ∷ g) j (inr h) l = h

length-tails : (gs : List (List ℕ)) → ((g : List ℕ) → Listed g gs → 2 ≤ length g) → length (flat_map (drop 1) gs) + length gs ≡ sum_by length gs
length-tails [] f = refl
length-tails (g ∷ gs) f =
    let e = length-append (drop 1 g) (flat_map (drop 1) gs) in
    let r = length-tails gs (λ h l. f h (inr l)) in
    let t = one g (f g (inl refl)) in
    let s = sum_by-cons length g gs in
    omega arith
  where
    one : (g : List ℕ) → 2 ≤ length g → suc (length (drop 1 g)) ≡ length g
    one [] l = absurd (omega arith)
    one (x ∷ g) l = refl

error_of-tails : (gs : List (List ℕ)) → ((g : List ℕ) → Listed g gs → 2 ≤ length g) → error_of gs ≡ length (flat_map (drop 1) gs)
unfolding error_of
error_of-tails gs f = let e = length-tails gs f in omega arith

module _ (same : ℕ → ℕ → Bool) (is : IsSame same) (rows : List ℕ) (up : Climbs rows) where
  pub group_climbs : (g : List ℕ) → GroupOf same rows g → Climbs g
  group_climbs g of = subst Climbs (sym of.is) (Climbs-filter (same of.row) rows up)

  -- parts of different groups have no row in common
  pub Once-each : (f : List ℕ → List ℕ) (gs : List (List ℕ)) → ((g : List ℕ) (i : ℕ) → Listed i (f g) → Listed i g) → ((g : List ℕ) → GroupOf same rows g → Once (f g))
      → ((g : List ℕ) → Listed g gs → GroupOf same rows g) → Apart gs → Once (flat_map f gs)
  Once-each f [] within once of a = tt
  Once-each f (g ∷ gs) within once of a = Once-append (f g) (flat_map f gs) (once g (of g (inl refl))) (Once-each f gs within once (λ h l. of h (inr l)) a.1) (λ i h l.
      let w = Listed-flat_map_which f i gs l in
      let e : g ≡ w.0 = group_apart same is rows g w.0 i (of g (inl refl)) (of w.0 (inr w.1)) (within g i h) (within w.0 i w.2) in
      absurd (a.0 w.0 w.1 (ap (λ (x : List ℕ). get_or x 0 0) e)))

  drop_within : (g : List ℕ) (i : ℕ) → Listed i (drop 1 g) → Listed i g
  drop_within [] i h = absurd h
  drop_within (x ∷ g) i h = inr h

  Once-drop : (g : List ℕ) → Once g → Once (drop 1 g)
  Once-drop [] o = tt
  Once-drop (x ∷ g) o = o.1

  tails : List ℕ
  tails = flat_map (drop 1) (grouped same rows)

  Once-tails : Once tails
  unfolding tails
  Once-tails = Once-each (drop 1) (grouped same rows) drop_within (λ g of. Once-drop g (Climbs-Once g (group_climbs g of))) (Listed-grouped_parts same is rows) (Ahead-Apart (grouped same rows) (Ahead-grouped same is rows up))

  tails_follow : (j : ℕ) → Listed j tails → Listed j (filter (follows same rows) rows)
  unfolding tails
  tails_follow j h =
      let w = Listed-flat_map_which (drop 1) j (grouped same rows) h in
      let of = Listed-grouped_parts same is rows w.0 w.1 in
      let t = tail_parts w.0 j (group_climbs w.0 of) w.2 in
      let v = Listed-filter_parts (same of.row) j rows (subst (Listed j) of.is t.0) in
      let l : of.row < j = subst (λ (k : ℕ). k < j) of.first t.1 in
      Listed-filter (follows same rows) j rows v.0 (list_any_at (λ i. ltb i j && same i j) of.row rows of.listed (and_from (ltb of.row j) (same of.row j) (lt-ltb of.row j l) v.1))

  follow_tails : (j : ℕ) → Listed j (filter (follows same rows) rows) → Listed j tails
  unfolding tails
  follow_tails j h =
      let v = Listed-filter_parts (follows same rows) j rows h in
      let w = list_any_which (λ i. ltb i j && same i j) rows v.1 in
      let p = and_parts (ltb w.0 j) (same w.0 j) w.2 in
      let l = ltb-true w.0 j p.0 in
      let back = is.symm w.0 j p.1 in
      let mine : Listed j (group_of same rows j) = Listed-filter (same j) j rows v.0 (is.trans j w.0 j back p.1) in
      let its : Listed w.0 (group_of same rows j) = Listed-filter (same j) w.0 rows w.1 back in
      let two : 2 ≤ length (group_of same rows j) = two_of (group_of same rows j) w.0 j its mine (λ e. let d : w.0 ≡ j = e in absurd (omega arith)) in
      let m = first_least (group_of same rows j) w.0 (Climbs-filter (same j) rows up) its in
      Listed-flat_map (drop 1) (group_of same rows j) j (grouped same rows) (Listed-grouped same is rows j v.0 two) (tail_from (group_of same rows j) j mine (omega arith))

  pub error_of-grouped : error_of (grouped same rows) ≡ length (filter (follows same rows) rows)
  unfolding tails
  error_of-grouped =
      error_of-tails (grouped same rows) (λ g l. (Listed-grouped_parts same is rows g l).two)
      ∙ le_antisymm (Once-length tails (filter (follows same rows) rows) Once-tails tails_follow)
      (Once-length (filter (follows same rows) rows) tails (Once-filter (follows same rows) rows (Climbs-Once rows up)) follow_tails)
