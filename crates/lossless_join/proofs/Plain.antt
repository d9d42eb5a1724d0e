-- The plain definition of a natural join, as the tests run it.
use Rattle.std.proofs.Common.{inl, inr, ◌≡◌, ◌⊎◌, ◌↔◌, ℕ, ◌+◌, ◌<◌, ◌≤◌, ◌^◌, Bool, true, sym, ap, ap₂, ◌∙◌, subst, arith, List, [], ◌∷◌, ◌++◌, length, get_or, take, IsTrue}
use Rattle.std.specs.List.{All, Contains, list_any}
use Rattle.std.proofs.lemmas.List.{take_more, take_all}
use Rattle.col_set.specs.ColSet.{all, subset}
use Rattle.col_set.specs.Lists.{Listed, Listed-append_cases, list_any_at, list_any_which}
use Rattle.col_set.specs.Subsets.{subset-true, subset_below}
use Rattle.col_set.proofs.Places.{Contains-listed, Listed-contained}
use Rattle.rel_base.specs.Cells.{Row}
use Rattle.rel_base.specs.Projection.{part, same_row}
use Rattle.rel_base.proofs.States.{All-listed, All-from}
use Rattle.lossless_join.specs.NaturalJoin.{TableRows}
use Rattle.rel_base.proofs.Parts.{same_row-true}
use Rattle.lossless_join.proofs.Projected.{same_row-itself}
use Rattle.lossless_join.proofs.Heath.{all-below}

-- ---- what holds of each of the first elements
module _ {X : Type 0} (P : X → Type 0) (xs : List X) where
  pub All-start : All P (take 0 xs)
  All-start k d l = absurd (omega arith)

  pub All-next : (i : ℕ) (x : X) → i < length xs → x ≡ get_or xs i x → All P (take i xs) → P x → All P (take (i + 1) xs)
  All-next i x l is a p = subst (All P) (sym (take_more xs i x l ∙ ap (λ (y : X). take i xs ++ y ∷ []) (sym is)))
      (All-from P (take i xs ++ x ∷ []) (λ y g. at y (Listed-append_cases y (take i xs) (x ∷ []) g)))
    where
      at : (y : X) → Listed y (take i xs) ⊎ Listed y (x ∷ []) → P y
      at y (inl g) = All-listed P y (take i xs) a g
      at y (inr (inl e)) = subst P (sym e) p
      at y (inr (inr g)) = absurd g

  pub All-whole : (i : ℕ) → length xs ≤ i → All P (take i xs) → All P xs
  All-whole i l a = subst (All P) (take_all i xs l) a

-- ---- the tests
pub contains-true : (rows : List Row) (row : Row) (b : Bool) → b ≡ list_any (λ y. same_row y row) rows → IsTrue b ↔ Contains rows row
contains-true rows row b e = (
  λ t. let w = list_any_which (λ y. same_row y row) rows (sym e ∙ t) in Contains-listed row rows (subst (λ (y : Row). Listed y rows) (same_row-true w.0 row w.2) w.1),
  λ h. e ∙ list_any_at (λ y. same_row y row) row rows (Listed-contained row rows h) (same_row-itself row),
)

pub within-true : (columns n whole : ℕ) → whole ≡ all n → subset columns whole ≡ true → columns < 2 ^ n
within-true columns n whole e s = subset_below n (subset-true (ap (subset columns) (sym e) ∙ s)) (all-below n)

-- a part as it was found in a table
pub moved : (t : TableRows) (row p : Row) (rows : List Row) (columns : ℕ) → rows ≡ t.rows → columns ≡ t.columns → p ≡ part columns row → Contains rows p ↔ Contains t.rows (part t.columns row)
moved t row p rows columns e f g =
    let same : Contains rows p ≡ Contains t.rows (part t.columns row) = ap₂ (λ (rs : List Row) (q : Row). Contains rs q) e (g ∙ ap (λ (s : ℕ). part s row) f) in
    (λ h. subst (λ (P : Type 0). P) same h, λ h. subst (λ (P : Type 0). P) (sym same) h)
