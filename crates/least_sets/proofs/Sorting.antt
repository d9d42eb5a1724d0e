-- A list of column sets that was sorted, and then kept each once.
use Rattle.std.proofs.Common.{inl, inr, ◌≡◌, ℕ, eqb, sym, subst, List, [], ◌∷◌, Ordering, Less, IsPermutation}
use Rattle.std.specs.List.{AllByRecursion, dedup}
use Rattle.std.specs.List.Sorted.{IsSorted, IsStrictlySortedBy}
use Rattle.std.specs.List.Retain.{IsFiltered, DiffersFromLast}
use Rattle.std.proofs.lemmas.List.Filters.{dedup_is}
use Rattle.std.proofs.lemmas.List.Kept.{Contains-dedup_nat, Contains-from_dedup, IsStrictlySortedBy-dedup}
use Rattle.std.proofs.lemmas.List.Sorted.{Contains-permutation, IsPermutation-sym}
use Rattle.col_set.specs.ColSet.{report_cmp}
use Rattle.col_set.specs.Columns.{report_total}
use Rattle.col_set.specs.AllSets.{report_matches_eq}
use Rattle.col_set.specs.Lists.{Listed, Rises}
use Rattle.col_set.proofs.Places.{Contains-listed, Listed-contained}
use Rattle.least_sets.specs.Members.{HasMembers}

Listed_all : {X : Type 0} (P : X → Type 0) (x : X) (xs : List X) → AllByRecursion P xs → Listed x xs → P x
Listed_all P x [] a h = absurd h
Listed_all P x (y ∷ xs) a (inl e) = subst P (sym e) a.0
Listed_all P x (y ∷ xs) a (inr h) = Listed_all P x xs a.1 h

Rises_strict : {X : Type 0} (R : X → X → Ordering) (xs : List X) → IsStrictlySortedBy R xs → Rises R xs
unfolding IsStrictlySortedBy
Rises_strict R [] s = tt
Rises_strict R (x ∷ xs) s = ((λ y h. Listed_all (λ y. R x y ≡ Less) y xs s.0 h), Rises_strict R xs s.1)

pub sorted_order : (xs ys : List ℕ) → IsSorted report_cmp xs → IsFiltered (DiffersFromLast eqb) [] xs ys → Rises report_cmp ys
sorted_order xs ys s f = subst (Rises report_cmp) (sym (dedup_is eqb xs ys f)) (Rises_strict report_cmp (dedup eqb xs) (IsStrictlySortedBy-dedup report_total report_matches_eq xs s))

pub sorted_members : (sets xs ys : List ℕ) → IsPermutation sets xs → IsFiltered (DiffersFromLast eqb) [] xs ys → HasMembers sets ys
sorted_members sets xs ys p f = record {
  each = λ x h. Listed-contained x sets (Contains-permutation xs sets x (IsPermutation-sym sets xs p) (Contains-from_dedup eqb xs x (Contains-listed x (dedup eqb xs) (subst (Listed x) same h))));
  every = λ x h. subst (Listed x) (sym same) (Listed-contained x (dedup eqb xs) (Contains-dedup_nat xs x (Contains-permutation sets xs x p (Contains-listed x sets h))));
}
  where
    same : ys ≡ dedup eqb xs
    same = dedup_is eqb xs ys f
