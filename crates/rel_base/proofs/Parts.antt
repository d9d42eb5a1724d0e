-- What the test of an inclusion means, and what a projection has.
use Rattle.std.proofs.Common.{inl, inr, ◌≡◌, ◌≢◌, ◌⊎◌, ℕ, zero, suc, ◌<◌, eqb, Bool, true, false, cond, not, ◌||◌, refl, sym, ap, ap₂, ◌∙◌, subst, arith, List, [], ◌∷◌, length, map, get_or}
use Rattle.std.specs.List.{Contains, AllPairs, filter, list_any}
use Rattle.std.proofs.lemmas.Bool.{and_parts, and_from, or_cases, or_left, or_right, not-true, true≢false, false≢true, eqb-false, ne_eqb}
use Rattle.col_set.specs.Lists.{Listed, Listed-filter, Listed-filter_parts, Listed-map, Listed-map_which, list_all_at, list_all_from, list_any_at, list_any_which}
use Rattle.col_set.specs.ColSet.{Columns}
use Rattle.col_set.proofs.Places.{Contains-listed, Listed-contained, Listed-get_or}
use Rattle.rel_base.specs.Cells.{Cell, Row}
use Rattle.rel_base.specs.Agreement.{same_cell}
use Rattle.rel_base.specs.RowState.{RowState, row}
use Rattle.rel_base.specs.Inclusion.{included, Included}
use Rattle.rel_base.specs.Projection.{part, same_row, distinct, projected, projection}
use Rattle.rel_base.specs.Laws.{ProjectionMeans}
use Rattle.rel_base.proofs.Agree.{same_cell-true, true-same_cell}

-- ---- inclusions
pub Included-tested : (columns : List (List Cell)) (c d : ℕ) → c < length columns → d < length columns → included columns c d ≡ true → Included columns c d
unfolding included
Included-tested columns c d l m e = record {
  dependent = l;
  referenced = m;
  other = eqb-false c d (not-true _ (and_parts (not (eqb c d)) _ e).0);
  each = λ a h filled. by a filled (or_cases (same_cell a []) (list_any (same_cell a) (get_or columns d [])) (list_all_at _ a (get_or columns c []) (and_parts (not (eqb c d)) _ e).1 (Listed-contained a _ h)));
}
  where
    by : (a : Cell) → a ≢ [] → (same_cell a [] ≡ true) ⊎ (list_any (same_cell a) (get_or columns d []) ≡ true) → Contains (get_or columns d []) a
    by a filled (inl i) = absurd (filled (same_cell-true a [] i))
    by a filled (inr i) = let w = list_any_which (same_cell a) (get_or columns d []) i in
        subst (λ (x : Cell). Contains (get_or columns d []) x) (sym (same_cell-true a w.0 w.2)) (Contains-listed w.0 (get_or columns d []) w.1)

pub included-true : (columns : List (List Cell)) (c d : ℕ) → Included columns c d → included columns c d ≡ true
unfolding included
included-true columns c d h = and_from _ _ (ap not (ne_eqb c d h.other)) (list_all_from _ (get_or columns c []) (λ a g. by a g (same_cell a []) refl))
  where
    by : (a : Cell) → Listed a (get_or columns c []) → (b : Bool) → same_cell a [] ≡ b → (same_cell a [] || list_any (same_cell a) (get_or columns d [])) ≡ true
    by a g true i = or_left _ _ i
    by a g false i = or_right (same_cell a []) _ (list_any_at (same_cell a) a (get_or columns d [])
        (Listed-contained a _ (h.each a (Contains-listed a _ g) (λ e. true≢false (sym (true-same_cell a [] e) ∙ i)))) (true-same_cell a a refl))

-- ---- distinct rows
pub same_row-true : (a b : Row) → same_row a b ≡ true → a ≡ b
same_row-true [] [] e = refl
same_row-true [] (y ∷ ys) e = absurd (false≢true e)
same_row-true (x ∷ xs) [] e = absurd (false≢true e)
same_row-true (x ∷ xs) (y ∷ ys) e = let w = and_parts (same_cell x y) (same_row xs ys) e in
    ap₂ (λ (z : Cell) (zs : Row). z ∷ zs) (same_cell-true x y w.0) (same_row-true xs ys w.1)

pub true-same_row : (a b : Row) → a ≡ b → same_row a b ≡ true
true-same_row a b e = subst (λ (c : Row). same_row a c ≡ true) e (itself a)
  where
    itself : (c : Row) → same_row c c ≡ true
    itself [] = refl
    itself (x ∷ xs) = and_from _ _ (true-same_cell x x refl) (itself xs)

pub distinct-listed : (x : Row) (xs : List Row) → Listed x (distinct xs) → Listed x xs
unfolding distinct
distinct-listed x [] h = h
distinct-listed x (y ∷ xs) (inl e) = inl e
distinct-listed x (y ∷ xs) (inr h) = inr (distinct-listed x xs (Listed-filter_parts (λ other. not (same_row y other)) x (distinct xs) h).0)

pub Listed-distinct : (x : Row) (xs : List Row) → Listed x xs → Listed x (distinct xs)
unfolding distinct
Listed-distinct x [] h = h
Listed-distinct x (y ∷ xs) (inl e) = inl e
Listed-distinct x (y ∷ xs) (inr h) = by (same_row y x) refl (Listed-distinct x xs h)
  where
    by : (b : Bool) → same_row y x ≡ b → Listed x (distinct xs) → Listed x (distinct (y ∷ xs))
    by true e g = inl (sym (same_row-true y x e))
    by false e g = inr (Listed-filter (λ other. not (same_row y other)) x (distinct xs) g (ap not e))

-- each element differs from each later one
abbrev Apart : List Row → Type 0
Apart [] = Unit {0}
Apart (x ∷ xs) = ((y : Row) → Listed y xs → x ≢ y) × Apart xs

Apart-filter : (p : Row → Bool) (xs : List Row) → Apart xs → Apart (filter p xs)
Apart-filter p [] a = tt
Apart-filter p (x ∷ xs) a = by (p x) (Apart-filter p xs a.1)
  where
    by : (b : Bool) → Apart (filter p xs) → Apart (cond b (x ∷ filter p xs) (filter p xs))
    by true g = ((λ y h. a.0 y (Listed-filter_parts p y xs h).0), g)
    by false g = g

Apart-distinct : (xs : List Row) → Apart (distinct xs)
unfolding distinct
Apart-distinct [] = tt
Apart-distinct (y ∷ xs) = ((λ z h e. true≢false (sym (true-same_row y z e) ∙ not-true _ (Listed-filter_parts (λ other. not (same_row y other)) z (distinct xs) h).1)), Apart-filter (λ other. not (same_row y other)) (distinct xs) (Apart-distinct xs))

AllPairs-apart : (xs : List Row) → Apart xs → AllPairs (λ x y. x ≢ y) xs
AllPairs-apart [] a i j d l h = absurd (omega arith)
AllPairs-apart (x ∷ xs) a zero zero d l h = absurd (omega arith)
AllPairs-apart (x ∷ xs) a zero (suc j) d l h = a.0 _ (Listed-get_or xs j d (omega arith))
AllPairs-apart (x ∷ xs) a (suc i) zero d l h = absurd (omega arith)
AllPairs-apart (x ∷ xs) a (suc i) (suc j) d l h = AllPairs-apart xs a.1 i j d (omega arith) (omega arith)

-- ---- projections
pub ProjectionMeans-projection : (r : RowState) (s : Columns) → ProjectionMeans r s
unfolding projection projected
ProjectionMeans-projection r s = record {
  parts = λ p. (
    λ h. let w = Listed-map_which (part s) p (map (row r) r.live) (distinct-listed p _ (Listed-contained p _ h)) in
        let v = Listed-map_which (row r) w.0 r.live w.1 in
        (v.0, Contains-listed v.0 r.live v.1, sym (w.2 ∙ ap (part s) v.2)),
    λ h. Contains-listed p _ (Listed-distinct p _ (subst (λ (q : Row). Listed q (map (part s) (map (row r) r.live))) h.2 (Listed-map (part s) (row r h.0) _ (Listed-map (row r) h.0 r.live (Listed-contained h.0 r.live h.1))))),
  );
  once = AllPairs-apart _ (Apart-distinct (map (part s) (map (row r) r.live)));
}
