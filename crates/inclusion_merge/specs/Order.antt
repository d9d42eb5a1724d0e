-- The laws of the order of values.
use Rattle.std.specs.Prelude.{◌≡◌, ℕ, Bool, true, false, List, length, Some, nat_eq, refl}
use Rattle.std.specs.declared.cmp.Ordering.{Ordering}
use Rattle.std.specs.declared.cmp.Ordering.TheVariants.{Less, Equal, Greater}
use Rattle.std.specs.Ordering.{eq_by_cmp, is_eq, ordering_then}
use Rattle.std.specs.Cmp.{IsPartialOrder, IsTotalOrder, nat_cmp_total, on_total, po, then_total, tied_itself}
use Rattle.std.specs.Cmp.Lexicographic.{nat_list_cmp_total, pointwise, same_text, texts_ties}
use Rattle.std.proofs.Common.{sym, ap, subst, ◌∙◌}
use Rattle.inclusion_merge.specs.Values.{prefix_of, value_cmp}

pub value_total : IsTotalOrder value_cmp
value_total = then_total (on_total prefix_of nat_cmp_total) (then_total (on_total length nat_cmp_total) nat_list_cmp_total)

then_unequal : (a b c : Ordering) → false ≡ is_eq c → false ≡ is_eq (ordering_then a (ordering_then b c))
then_unequal Less b c e = refl
then_unequal Greater b c e = refl
then_unequal Equal Less c e = refl
then_unequal Equal Greater c e = refl
then_unequal Equal Equal c e = e

pub value_ties : (x y : List ℕ) → pointwise nat_eq x y ≡ eq_by_cmp value_cmp x y
value_ties x y = go (pointwise nat_eq x y) refl
  where
    go : (b : Bool) → pointwise nat_eq x y ≡ b → b ≡ eq_by_cmp value_cmp x y
    go true e = subst (λ (z : List ℕ). true ≡ eq_by_cmp value_cmp x z) (same_text x y (sym e)) (sym (ap is_eq (tied_itself value_total x)))
    go false e = then_unequal _ _ _ (sym e ∙ texts_ties x y)

pub value_po : IsPartialOrder (pointwise nat_eq) (λ x y. Some (value_cmp x y))
value_po = po value_total value_ties
