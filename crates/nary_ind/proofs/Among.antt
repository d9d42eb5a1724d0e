-- Tuples that are among others.
use Rattle.std.proofs.Common.{inl, inr, ◌≡◌, ◌⊎◌, ℕ, Bool, true, ◌||◌, refl, sym, ap, ◌∙◌, subst, List, [], ◌∷◌, length, map}
use Rattle.std.specs.List.{list_all, list_any}
use Rattle.std.proofs.lemmas.Bool.{or_cases, or_left, or_right}
use Rattle.std.proofs.lemmas.List.{length-map}
use Rattle.col_set.specs.Lists.{Listed, Listed-map, Listed-map_which, list_all_at, list_all_from, list_any_at, list_any_which}
use Rattle.col_set.specs.Subsets.{same_test}
use Rattle.rel_base.specs.Cells.{Cell, Row, cell}
use Rattle.rel_base.specs.Agreement.{same_cell}
use Rattle.rel_base.specs.Projection.{same_row}
use Rattle.rel_base.specs.Inclusion.{included}
use Rattle.rel_base.proofs.Agree.{same_cell-true, true-same_cell}
use Rattle.rel_base.proofs.Parts.{same_row-true, true-same_row}
use Rattle.nary_ind.specs.ListInclusions.{tuple, is_null, are_among}
use Rattle.nary_ind.specs.Laws.{IsTupleCode}

-- ---- the test as a fact
pub among-each : (ts us : List Row) → are_among ts us ≡ true → (t : Row) → Listed t ts → (is_null t ≡ true) ⊎ Listed t us
unfolding are_among
among-each ts us e t h =
    elim (or_cases (is_null t) (list_any (same_row t) us) (list_all_at (λ (t : Row). is_null t || list_any (same_row t) us) t ts e h)) as (λ _. (is_null t ≡ true) ⊎ Listed t us) [
      | inl n ↦ inl n
      | inr g ↦ let w = list_any_which (same_row t) us g in inr (subst (λ (u : Row). Listed u us) (sym (same_row-true t w.0 w.2)) w.1)
    ]

pub among-from : (ts us : List Row) → ((t : Row) → Listed t ts → (is_null t ≡ true) ⊎ Listed t us) → are_among ts us ≡ true
unfolding are_among
among-from ts us f = list_all_from (λ (t : Row). is_null t || list_any (same_row t) us) ts (λ t h.
    elim (f t h) as (λ _. (is_null t || list_any (same_row t) us) ≡ true) [
      | inl n ↦ or_left _ _ n
      | inr g ↦ or_right (is_null t) _ (list_any_at (same_row t) t us g (true-same_row t t refl))
    ])

-- ---- the tuples of rows
pub map-twice : {X Y Z : Type 0} (f : Y → Z) (g : X → Y) (xs : List X) → map f (map g xs) ≡ map (λ x. f (g x)) xs
map-twice f g [] = refl
map-twice {Z = Z} f g (x ∷ xs) = ap (λ (zs : List Z). f (g x) ∷ zs) (map-twice f g xs)

pub tuple-length : (cs : List ℕ) (rows : List Row) (t : Row) → Listed t (map (tuple cs) rows) → length t ≡ length cs
tuple-length cs rows t h = let w = Listed-map_which (tuple cs) t rows h in ap length w.2 ∙ length-map cs (cell w.0)

-- Tuples stay among others where both are made of them in the same way, and what is made of NULLs is NULL.
pub among-made : (make : Row → Row) (ds es ds' es' : List ℕ) (rows others : List Row)
    → ((x : Row) → tuple ds' x ≡ make (tuple ds x)) → ((y : Row) → tuple es' y ≡ make (tuple es y)) → ((t : Row) → length t ≡ length ds → is_null t ≡ true → is_null (make t) ≡ true)
    → are_among (map (tuple ds) rows) (map (tuple es) others) ≡ true → are_among (map (tuple ds') rows) (map (tuple es') others) ≡ true
among-made make ds es ds' es' rows others left right nulls e =
    among-from (map (tuple ds') rows) (map (tuple es') others) (λ t h.
    let w = Listed-map_which (tuple ds') t rows h in
    by t w.0 w.1 (w.2 ∙ left w.0) (among-each (map (tuple ds) rows) (map (tuple es) others) e (tuple ds w.0) (Listed-map (tuple ds) w.0 rows w.1)))
  where
    by : (t x : Row) → Listed x rows → t ≡ make (tuple ds x) → (is_null (tuple ds x) ≡ true) ⊎ Listed (tuple ds x) (map (tuple es) others) → (is_null t ≡ true) ⊎ Listed t (map (tuple es') others)
    by t x h is (inl n) = inl (ap is_null is ∙ nulls (tuple ds x) (length-map ds (cell x)) n)
    by t x h is (inr g) =
        let v = Listed-map_which (tuple es) (tuple ds x) others g in
        inr (subst (λ (u : Row). Listed u (map (tuple es') others)) (right v.0 ∙ ap make (sym v.2) ∙ sym is) (Listed-map (tuple es') v.0 others v.1))

-- ---- codes of tuples
pub codes-tell : (n : ℕ) (code : Row → Cell) (ts us : List Row) → ((t : Row) → Listed t ts → length t ≡ n) → ((u : Row) → Listed u us → length u ≡ n) → IsTupleCode n code
    → included (map code ts ∷ map code us ∷ []) 0 1 ≡ are_among ts us
unfolding included
codes-tell n code ts us long wide is = same_test _ _ there back
  where
    coded : Cell → Bool
    coded a = same_cell a [] || list_any (same_cell a) (map code us)

    there : list_all (λ (a : Cell). same_cell a [] || list_any (same_cell a) (map code us)) (map code ts) ≡ true → are_among ts us ≡ true
    there e = among-from ts us (λ t h. by t h (or_cases (same_cell (code t) []) (list_any (same_cell (code t)) (map code us)) (list_all_at (λ (a : Cell). same_cell a [] || list_any (same_cell a) (map code us)) (code t) (map code ts) e (Listed-map code t ts h))))
      where
        by : (t : Row) → Listed t ts → (same_cell (code t) [] ≡ true) ⊎ (list_any (same_cell (code t)) (map code us) ≡ true) → (is_null t ≡ true) ⊎ Listed t us
        by t h (inl n) = inl ((is.null t (long t h)).0 (same_cell-true (code t) [] n))
        by t h (inr g) =
            let w = list_any_which (same_cell (code t)) (map code us) g in
            let v = Listed-map_which code w.0 us w.1 in
            inr (subst (λ (u : Row). Listed u us) (sym (is.injective t v.0 (long t h) (wide v.0 v.1) (same_cell-true (code t) w.0 w.2 ∙ v.2))) v.1)

    back : are_among ts us ≡ true → list_all (λ (a : Cell). same_cell a [] || list_any (same_cell a) (map code us)) (map code ts) ≡ true
    back e = list_all_from (λ (a : Cell). same_cell a [] || list_any (same_cell a) (map code us)) (map code ts) (λ a h.
        let w = Listed-map_which code a ts h in
        subst (λ (b : Cell). (same_cell b [] || list_any (same_cell b) (map code us)) ≡ true) (sym w.2) (by w.0 w.1 (among-each ts us e w.0 w.1)))
      where
        by : (t : Row) → Listed t ts → (is_null t ≡ true) ⊎ Listed t us → (same_cell (code t) [] || list_any (same_cell (code t)) (map code us)) ≡ true
        by t h (inl n) = or_left _ _ (true-same_cell (code t) [] ((is.null t (long t h)).1 n))
        by t h (inr g) = or_right (same_cell (code t) []) _ (list_any_at (same_cell (code t)) (code t) (map code us) (Listed-map code t us g) (true-same_cell (code t) (code t) refl))
