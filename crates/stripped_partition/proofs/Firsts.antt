-- The numbers of a list, each once, and the parts of a group by code.
use Rattle.std.proofs.Common.{inl, inr, ◌≡◌, ◌⊎◌, ℕ, ◌<◌, ◌≤◌, Bool, true, false, cond, not, ◌&&◌, eqb, ltb, leb, refl, sym, ap, ◌∙◌, subst, arith, List, [], ◌∷◌, length, get_or, map}
use Rattle.std.specs.List.{filter}
use Rattle.std.proofs.lemmas.Bool.{true≢false, eqb-true, eq-eqb, ne_eqb, ltb-true, lt-ltb, leb-true, le-leb, cases_eq, and_parts, and_from, not-true, not_from_false}
use Rattle.col_set.specs.Lists.{Listed, Listed-filter, Listed-filter_parts, Listed-map, Listed-map_which}
use Rattle.col_set.proofs.Places.{Listed-get_or}
use Rattle.stripped_partition.specs.Order.{Apart}
use Rattle.stripped_partition.specs.Splits.{firsts}

-- ---- each once
abbrev pub Once : {X : Type 0} → List X → Type 0
Once [] = Unit {0}
Once (x ∷ xs) = (Listed x xs → ⊥) × Once xs

pub Once-filter : {X : Type 0} (p : X → Bool) (xs : List X) → Once xs → Once (filter p xs)
Once-filter p [] o = tt
Once-filter p (x ∷ xs) o = by (p x) (Once-filter p xs o.1)
  where
    by : (b : Bool) → Once (filter p xs) → Once (cond b (x ∷ filter p xs) (filter p xs))
    by true r = ((λ h. o.0 (Listed-filter_parts p x xs h).0), r)
    by false r = r

pub Once-firsts : (xs : List ℕ) → Once (firsts xs)
unfolding firsts
Once-firsts [] = tt
Once-firsts (x ∷ xs) =
    ((λ h. let w = Listed-filter_parts (λ y. not (eqb x y)) x (firsts xs) h in true≢false (sym (eq-eqb x x refl) ∙ not-true (eqb x x) w.1)), Once-filter (λ y. not (eqb x y)) (firsts xs) (Once-firsts xs))

pub Listed-firsts : (x : ℕ) (xs : List ℕ) → Listed x xs → Listed x (firsts xs)
unfolding firsts
Listed-firsts x [] h = absurd h
Listed-firsts x (y ∷ xs) (inl e) = inl e
Listed-firsts x (y ∷ xs) (inr h) = by (cases_eq x y) (Listed-firsts x xs h)
  where
    by : (x ≡ y) ⊎ (x ≡ y → ⊥) → Listed x (firsts xs) → Listed x (y ∷ filter (λ z. not (eqb y z)) (firsts xs))
    by (inl e) l = inl e
    by (inr ne) l = inr (Listed-filter (λ z. not (eqb y z)) x (firsts xs) l (not_from_false (eqb y x) (ne_eqb y x (λ e. ne (sym e)))))

pub firsts-listed : (x : ℕ) (xs : List ℕ) → Listed x (firsts xs) → Listed x xs
unfolding firsts
firsts-listed x [] h = absurd h
firsts-listed x (y ∷ xs) (inl e) = inl e
firsts-listed x (y ∷ xs) (inr h) = inr (firsts-listed x xs (Listed-filter_parts (λ z. not (eqb y z)) x (firsts xs) h).0)

-- ---- the parts of a group
-- the rows that have a code
abbrev pub with_code : (ℕ → ℕ) → List ℕ → ℕ → List ℕ
with_code code rows c = filter (λ i. eqb (code i) c) rows

-- the codes below a bound that two rows or more have
unfoldable pub repeated : (ℕ → ℕ) → ℕ → List ℕ → List ℕ
repeated code bound rows = filter (λ c. ltb c bound && leb 2 (length (with_code code rows c))) (firsts (map code rows))

-- the rows of each of those codes
unfoldable pub code_parts : (ℕ → ℕ) → ℕ → List ℕ → List (List ℕ)
code_parts code bound rows = map (with_code code rows) (repeated code bound rows)

pub record PartOf (code : ℕ → ℕ) (bound : ℕ) (rows g : List ℕ) : Type 0 where
  pub shared : ℕ
  pub within : shared < bound
  pub is : g ≡ with_code code rows shared
  pub two : 2 ≤ length g

module _ (code : ℕ → ℕ) (bound : ℕ) where
  passes : List ℕ → ℕ → Bool
  passes rows c = ltb c bound && leb 2 (length (with_code code rows c))

  pub parts-listed : (rows g : List ℕ) → Listed g (code_parts code bound rows) → PartOf code bound rows g
  unfolding code_parts repeated
  parts-listed rows g h =
      let w = Listed-map_which (with_code code rows) g (repeated code bound rows) h in
      let v = Listed-filter_parts (λ c. ltb c bound && leb 2 (length (with_code code rows c))) w.0 (firsts (map code rows)) w.1 in
      let u = and_parts (ltb w.0 bound) (leb 2 (length (with_code code rows w.0))) v.1 in
      record { shared = w.0; within = ltb-true w.0 bound u.0; is = w.2; two = subst (λ (x : List ℕ). 2 ≤ length x) (sym w.2) (leb-true 2 _ u.1) }

  pub Listed-parts : (rows : List ℕ) (i : ℕ) → Listed i rows → code i < bound → 2 ≤ length (with_code code rows (code i)) → Listed (with_code code rows (code i)) (code_parts code bound rows)
  unfolding code_parts repeated
  Listed-parts rows i h l two =
      Listed-map (with_code code rows) (code i) (repeated code bound rows)
      (Listed-filter (λ c. ltb c bound && leb 2 (length (with_code code rows c))) (code i) (firsts (map code rows)) (Listed-firsts (code i) (map code rows) (Listed-map code i rows h))
      (and_from (ltb (code i) bound) (leb 2 (length (with_code code rows (code i)))) (lt-ltb (code i) bound l) (le-leb 2 _ two)))

  -- the first row of a part is a row that has its code
  pub part_first : (rows g : List ℕ) → (of : PartOf code bound rows g) → Listed (get_or g 0 0) rows × (code (get_or g 0 0) ≡ of.shared)
  part_first rows g of =
      let l = of.two in
      let h = Listed-get_or g 0 0 (let m : 0 < length g = omega arith in m) in
      let w = Listed-filter_parts (λ i. eqb (code i) of.shared) (get_or g 0 0) rows (subst (Listed (get_or g 0 0)) of.is h) in
      (w.0, eqb-true _ _ w.1)

  -- parts by different codes begin with different rows
  Apart-map : (rows cs : List ℕ) → Once cs → ((c : ℕ) → Listed c cs → 2 ≤ length (with_code code rows c)) → Apart (map (with_code code rows) cs)
  Apart-map rows [] o f = tt
  Apart-map rows (c ∷ cs) o f = (
    (λ h l e. let w = Listed-map_which (with_code code rows) h cs l in
        o.0 (subst (λ (d : ℕ). Listed d cs) (sym (same w.0 c (f w.0 (inr w.1)) (f c (inl refl)) (ap (λ (g : List ℕ). get_or g 0 0) (sym w.2) ∙ sym e))) w.1)),
    Apart-map rows cs o.1 (λ d l. f d (inr l)),
  )
    where
      code_first : (c : ℕ) → 2 ≤ length (with_code code rows c) → code (get_or (with_code code rows c) 0 0) ≡ c
      code_first c two = let l : 0 < length (with_code code rows c) = omega arith in
          eqb-true _ _ (Listed-filter_parts (λ i. eqb (code i) c) _ rows (Listed-get_or (with_code code rows c) 0 0 l)).1

      same : (d c : ℕ) → 2 ≤ length (with_code code rows d) → 2 ≤ length (with_code code rows c) → get_or (with_code code rows d) 0 0 ≡ get_or (with_code code rows c) 0 0 → c ≡ d
      same d c m l e = sym (code_first c l) ∙ ap code (sym e) ∙ code_first d m

  pub Apart-parts : (rows : List ℕ) → Apart (code_parts code bound rows)
  unfolding code_parts repeated
  Apart-parts rows = Apart-map rows (repeated code bound rows) (Once-filter (λ c. ltb c bound && leb 2 (length (with_code code rows c))) (firsts (map code rows)) (Once-firsts (map code rows)))
      (λ c l. leb-true 2 _ (and_parts (ltb c bound) _ (Listed-filter_parts (λ c. ltb c bound && leb 2 (length (with_code code rows c))) c (firsts (map code rows)) l).1).1)
