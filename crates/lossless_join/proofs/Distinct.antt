-- Rows that are added to a set one after another are the distinct ones.
use Rattle.std.proofs.Common.{◌≡◌, ◌≢◌, ℕ, zero, suc, arith, Bool, true, false, cond, not, ◌||◌, refl, sym, ap, ap₂, ◌∙◌, subst, List, [], ◌∷◌, ◌++◌, map, length, get_or, take, ◌+◌, ◌<◌, append_assoc, append-nil}
use Rattle.std.specs.List.{filter, flat_map, list_any, AllPairs}
use Rattle.std.proofs.lemmas.Bool.{true≢false, false_from_ne_true, not-true}
use Rattle.std.proofs.lemmas.List.Elements.{filter-append}
use Rattle.std.proofs.lemmas.List.{map-append, take_more}
use Rattle.std.proofs.lemmas.List.Concat.{flat_map-append}
use Rattle.std.proofs.lemmas.List.Sums.{fold-append}
use Rattle.indexmap.specs.IndexSet.{insert_key, insert_all}
use Rattle.col_set.specs.Lists.{Listed, Listed-filter, Listed-filter_parts, list_any_at, list_any_which}
use Rattle.col_set.proofs.Places.{Listed-get_or}
use Rattle.rel_base.specs.Cells.{Row}
use Rattle.rel_base.specs.Projection.{part, same_row, distinct, projected}
use Rattle.rel_base.proofs.Parts.{same_row-true}
use Rattle.lossless_join.proofs.Projected.{Apart, same_row-itself}

pub same_row-symm : (a b : Row) → same_row a b ≡ true → same_row b a ≡ true
same_row-symm a b e = subst (λ (c : Row). same_row c a ≡ true) (same_row-true a b e) (same_row-itself a)

pub listed-same : (y : Row) (ks : List Row) → list_any (same_row y) ks ≡ true → Listed y ks
listed-same y ks e = let w = list_any_which (same_row y) ks e in subst (λ (k : Row). Listed k ks) (sym (same_row-true y w.0 w.2)) w.1

pub same-listed : (y : Row) (ks : List Row) → Listed y ks → list_any (same_row y) ks ≡ true
same-listed y ks l = list_any_at (same_row y) y ks l (same_row-itself y)

-- a row after others: it goes last where it is not there yet
module _ (x y : Row) (ds : List Row) where
  there : same_row y x ≡ false → Listed y ds → list_any (same_row y) (filter (λ other. not (same_row x other)) ds) ≡ true
  there f l = same-listed y _ (Listed-filter (λ other. not (same_row x other)) y ds l (ap not (false_from_ne_true _ (λ e. true≢false (sym (same_row-symm x y e) ∙ f)))))

  not_there : list_any (same_row y) ds ≡ false → list_any (same_row y) (filter (λ other. not (same_row x other)) ds) ≡ false
  not_there f = false_from_ne_true _ (λ e. true≢false (sym (same-listed y ds (Listed-filter_parts (λ other. not (same_row x other)) y ds (listed-same y _ e)).0) ∙ f))

  pushed : (a b : Bool) → list_any (same_row y) ds ≡ a → same_row y x ≡ b
      → cond (b || list_any (same_row y) (filter (λ other. not (same_row x other)) ds)) (x ∷ filter (λ other. not (same_row x other)) ds) (x ∷ (filter (λ other. not (same_row x other)) ds ++ y ∷ []))
      ≡ x ∷ filter (λ other. not (same_row x other)) (cond a ds (ds ++ y ∷ []))
  pushed true true e f = refl
  pushed true false e f = ap (λ t. cond t (x ∷ filter (λ other. not (same_row x other)) ds) (x ∷ (filter (λ other. not (same_row x other)) ds ++ y ∷ []))) (there f (listed-same y ds e))
  pushed false true e f = ap (λ (r : List Row). x ∷ r) (sym (filter-append (λ other. not (same_row x other)) ds (y ∷ [])
      ∙ ap (λ t. filter (λ other. not (same_row x other)) ds ++ cond (not t) (y ∷ []) []) (same_row-symm y x f) ∙ append-nil _))
  pushed false false e f = ap (λ t. cond t (x ∷ filter (λ other. not (same_row x other)) ds) (x ∷ (filter (λ other. not (same_row x other)) ds ++ y ∷ []))) (not_there e)
      ∙ ap (λ (r : List Row). x ∷ r) (sym (filter-append (λ other. not (same_row x other)) ds (y ∷ [])
      ∙ ap (λ t. filter (λ other. not (same_row x other)) ds ++ cond (not t) (y ∷ []) []) (false_from_ne_true (same_row x y) (λ g. true≢false (sym (same_row-symm x y g) ∙ f)))))

pub distinct-push : (xs : List Row) (y : Row) → insert_key same_row (distinct xs) y ≡ distinct (xs ++ y ∷ [])
unfolding distinct
distinct-push [] y = refl
distinct-push (x ∷ xs) y =
    ap (λ t. cond (t || list_any (same_row y) (filter (λ other. not (same_row x other)) (distinct xs))) (x ∷ filter (λ other. not (same_row x other)) (distinct xs)) (x ∷ (filter (λ other. not (same_row x other)) (distinct xs) ++ y ∷ []))) refl
    ∙ pushed x y (distinct xs) (list_any (same_row y) (distinct xs)) (same_row y x) refl refl
    ∙ ap (λ (ds : List Row). x ∷ filter (λ other. not (same_row x other)) ds) (distinct-push xs y)

pub distinct-push_all : (xs ys : List Row) → insert_all same_row (distinct xs) ys ≡ distinct (xs ++ ys)
distinct-push_all xs [] = ap distinct (sym (append-nil xs))
distinct-push_all xs (y ∷ ys) = ap (λ (ks : List Row). insert_all same_row ks ys) (distinct-push xs y) ∙ distinct-push_all (xs ++ y ∷ []) ys ∙ ap distinct (append_assoc xs (y ∷ []) ys)

pub insert_all-more : (ks xs : List Row) (y : Row) → insert_key same_row (insert_all same_row ks xs) y ≡ insert_all same_row ks (xs ++ y ∷ [])
insert_all-more ks xs y = sym (fold-append (insert_key same_row) ks xs (y ∷ []))

-- each differs from each later one
Apart-filter : (p : Row → Bool) (xs : List Row) → Apart xs → Apart (filter p xs)
Apart-filter p [] a = tt
Apart-filter p (x ∷ xs) a = by (p x) (Apart-filter p xs a.1)
  where
    by : (b : Bool) → Apart (filter p xs) → Apart (cond b (x ∷ filter p xs) (filter p xs))
    by true g = ((λ y h. a.0 y (Listed-filter_parts p y xs h).0), g)
    by false g = g

pub Apart-distinct : (xs : List Row) → Apart (distinct xs)
unfolding distinct
Apart-distinct [] = tt
Apart-distinct (y ∷ xs) = (
  λ z h e. true≢false (sym (subst (λ (c : Row). same_row y c ≡ true) e (same_row-itself y)) ∙ not-true _ (Listed-filter_parts (λ other. not (same_row y other)) z (distinct xs) h).1),
  Apart-filter (λ other. not (same_row y other)) (distinct xs) (Apart-distinct xs),
)

pub AllPairs-apart : (xs : List Row) → Apart xs → AllPairs (λ x y. x ≢ y) xs
AllPairs-apart [] a i j d l h = absurd (omega arith)
AllPairs-apart (x ∷ xs) a zero zero d l h = absurd (omega arith)
AllPairs-apart (x ∷ xs) a zero (suc j) d l h = a.0 _ (Listed-get_or xs j d (omega arith))
AllPairs-apart (x ∷ xs) a (suc i) zero d l h = absurd (omega arith)
AllPairs-apart (x ∷ xs) a (suc i) (suc j) d l h = AllPairs-apart xs a.1 i j d (omega arith) (omega arith)

-- ---- a row's part more, and the rows that a row is joined to
pub projected_more : (s : ℕ) (rows : List Row) (i : ℕ) (row p : Row) (keys next : List Row) → i < length rows → row ≡ get_or rows i row → keys ≡ projected s (take i rows) → p ≡ part s row → next ≡ insert_key same_row keys p → next ≡ projected s (take (i + 1) rows)
unfolding projected
projected_more s rows i row p keys next l is k e n = n ∙ ap₂ (insert_key same_row) k e ∙ distinct-push (map (part s) (take i rows)) (part s row)
    ∙ ap distinct (sym (map-append (part s) (take i rows) (row ∷ [])) ∙ ap (map (part s)) (sym (take_more rows i row l ∙ ap (λ (r : Row). take i rows ++ r ∷ []) (sym is))))

pub flat_more : (f : Row → List Row) (rows : List Row) (i : ℕ) (row : Row) (keys next : List Row) → i < length rows → row ≡ get_or rows i row → keys ≡ distinct (flat_map f (take i rows)) → next ≡ insert_all same_row keys (f row) → next ≡ distinct (flat_map f (take (i + 1) rows))
flat_more f rows i row keys next l is k n = n ∙ ap (λ (ks : List Row). insert_all same_row ks (f row)) k ∙ distinct-push_all (flat_map f (take i rows)) (f row)
    ∙ ap distinct (ap (λ (rs : List Row). flat_map f (take i rows) ++ rs) (sym (append-nil (f row))) ∙ sym (flat_map-append f (take i rows) (row ∷ []))
    ∙ ap (flat_map f) (sym (take_more rows i row l ∙ ap (λ (r : Row). take i rows ++ r ∷ []) (sym is))))
