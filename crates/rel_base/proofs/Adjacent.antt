-- A list in which each element stands before the next is in order.
use Rattle.std.proofs.Common.{◌≡◌, ℕ, ◌+◌, ◌-◌, ◌<◌, Bool, true, not, eqb, sym, ap, ap₂, ◌∙◌, arith, List, length, get_or, Ordering, Less}
use Rattle.std.specs.List.{AllPairs}
use Rattle.std.specs.Cmp.{IsTotalOrder}
use Rattle.std.specs.Ordering.{ordering_index}
use Rattle.std.proofs.lemmas.Bool.{false≢true}
use Rattle.std.proofs.lemmas.Cmp.{nat_cmp_total, on_total, then_total}
use Rattle.std.proofs.lemmas.List.{get_or_default}
use Rattle.std.proofs.lemmas.Map.Keys.{sorted_from_all_adjacent, Less-from_sorted}
use Rattle.col_set.specs.Columns.{report_total}
use Rattle.rel_base.specs.declared.dependency.Fd.{Fd}
use Rattle.rel_base.specs.Covers.{fd_cmp}

module _ {X : Type 0} {R : X → X → Ordering} (o : IsTotalOrder R) where
  pub AllPairs-adjacent : (xs : List X) → ((k : ℕ) (d : X) → k + 1 < length xs → R (get_or xs k d) (get_or xs (k + 1) d) ≡ Less) → AllPairs (λ x y. R x y ≡ Less) xs
  AllPairs-adjacent xs f i j d l h = Less-from_sorted R xs i j d (sorted_from_all_adjacent o xs d (λ k b. f k d b)) l h

  -- a list with an element that does not stand before the next is in no order
  pub not-adjacent : (xs : List X) (k : ℕ) (a b : X) (o : Ordering) (other : Bool) → 0 < k → k < length xs → a ≡ get_or xs (k - 1) a → b ≡ get_or xs k b → o ≡ R a b
      → other ≡ not (eqb (ordering_index o) 0) → other ≡ true → AllPairs (λ x y. R x y ≡ Less) xs → ⊥
  not-adjacent xs k a b o other p l i j e f t all =
      let less : o ≡ Less = e ∙ ap₂ R i (j ∙ get_or_default xs k b a l) ∙ all (k - 1) k a (omega arith) l in
      false≢true (sym (f ∙ ap (λ (o : Ordering). not (eqb (ordering_index o) 0)) less) ∙ t)

pub fd_total : IsTotalOrder fd_cmp
fd_total = then_total (on_total (λ (f : Fd). f.right) nat_cmp_total) (on_total (λ (f : Fd). f.left) report_total)
