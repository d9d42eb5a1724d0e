-- The values of a column.
use Rattle.std.proofs.Common.{◌≡◌, ◌∙◌, inl, inr, arith, Bool, true, not, refl, sym, ap, subst, List, [], ◌∷◌, length, filter, Ordering, Less}
use Rattle.std.specs.Prelude.{nat_eq}
use Rattle.std.specs.List.{AllByRecursion, dedup}
use Rattle.std.specs.List.Sorted.{IsPermutation, IsSorted, IsStrictlySortedBy}
use Rattle.std.specs.Cmp.Lexicographic.{nat_list_eq_equiv, pointwise, same_text}
use Rattle.std.proofs.lemmas.Bool.{and_from, and_parts, false≢true, ne_eqb}
use Rattle.std.proofs.lemmas.List.Kept.{Contains-dedup, Contains-from_dedup, IsStrictlySortedBy-dedup}
use Rattle.std.proofs.lemmas.List.Sorted.{Contains-permutation, IsPermutation-sym}
use Rattle.col_set.specs.Lists.{Listed, Listed-filter, Listed-filter_parts, Rises}
use Rattle.col_set.proofs.Places.{Contains-listed, Listed-contained}
use Rattle.rel_base.specs.Cells.{Cell}
use Rattle.inclusion_merge.specs.Values.{IsValuesOf, is_chosen, is_filled, value_cmp}
use Rattle.inclusion_merge.specs.Order.{value_ties, value_total}

-- ---- in order, each once
Listed-all : {X : Type 0} (P : X → Type 0) (xs : List X) → AllByRecursion P xs → (y : X) → Listed y xs → P y
Listed-all P [] all y h = absurd h
Listed-all P (x ∷ xs) all y (inl e) = subst P (sym e) all.0
Listed-all P (x ∷ xs) all y (inr h) = Listed-all P xs all.1 y h

Rises-sorted : {X : Type 0} (R : X → X → Ordering) (xs : List X) → IsStrictlySortedBy R xs → Rises R xs
unfolding IsStrictlySortedBy
Rises-sorted R [] s = tt
Rises-sorted R (x ∷ xs) s = (Listed-all (λ y. R x y ≡ Less) xs s.0, Rises-sorted R xs s.1)

pub Rises-dedup : (xs : List Cell) → IsSorted value_cmp xs → Rises value_cmp (dedup (pointwise nat_eq) xs)
Rises-dedup xs s = Rises-sorted value_cmp _ (IsStrictlySortedBy-dedup value_total value_ties xs s)

pub Listed-kept : (xs ys : List Cell) → IsPermutation xs ys → (a : Cell) → Listed a xs → Listed a (dedup (pointwise nat_eq) ys)
Listed-kept xs ys moved a h =
    Listed-contained a _ (Contains-dedup nat_list_eq_equiv (λ x y e. same_text x y (sym e)) ys a (Contains-permutation xs ys a moved (Contains-listed a xs h)))

pub Listed-from_kept : (xs ys : List Cell) → IsPermutation xs ys → (a : Cell) → Listed a (dedup (pointwise nat_eq) ys) → Listed a xs
Listed-from_kept xs ys moved a h =
    Listed-contained a xs (Contains-permutation ys xs a (IsPermutation-sym xs ys moved) (Contains-from_dedup (pointwise nat_eq) ys a (Contains-listed a _ h)))

-- ---- the cells that are not NULL
is_filled-false : (a : Cell) → is_filled a ≡ true → a ≡ [] → ⊥
is_filled-false a e none = false≢true (sym (ap is_filled none) ∙ e)

filled : (a : Cell) → (a ≡ [] → ⊥) → is_filled a ≡ true
filled [] some = absurd (some refl)
filled (b ∷ bs) some = ap not (ne_eqb (length (b ∷ bs)) 0 (λ e. omega arith))

pub IsValuesOf-filter : (picked : Cell → Bool) (cells values kept : List Cell) → kept ≡ filter (is_chosen picked) cells → Rises value_cmp values
    → ((a : Cell) → (Listed a values → Listed a kept) × (Listed a kept → Listed a values)) → IsValuesOf picked cells values
IsValuesOf-filter picked cells values kept is rises each = record {
  rises = rises;
  each = λ a. (
    (λ h.
        let w = Listed-filter_parts (is_chosen picked) a cells (subst (λ (xs : List Cell). Listed a xs) is ((each a).0 h)) in
        let both = and_parts (is_filled a) (picked a) w.1 in
        (w.0, is_filled-false a both.0, both.1)),
    (λ h.
        (each a).1 (subst (λ (xs : List Cell). Listed a xs) (sym is) (Listed-filter (is_chosen picked) a cells h.0 (and_from (is_filled a) (picked a) (filled a h.1) h.2)))),
  );
}

pub IsValuesOf-none : (picked : Cell → Bool) → IsValuesOf picked [] []
IsValuesOf-none picked = record { rises = tt; each = λ a. ((λ h. absurd h), (λ h. absurd h.0)) }
