use Rattle.std.proofs.Common.{◌∙◌, ℕ, List, sym, subst}
use Rattle.std.specs.List.Sorted.{IsStrictlyIncreasing}
use Rattle.std.proofs.lemmas.List.Filters.{dedup_is}
use Rattle.std.proofs.lemmas.Map.Keys.{IsStrictlyIncreasing-dedup}
use Rattle.col_set.specs.Lists.{Listed}
use Rattle.nary_ind.proofs.Keying.{Listed-distinct, Listed-from_distinct}
use Rattle.nary_ind.proofs.keys.distinct_in_order.Goals as goal

pub returns-clause-rises : goal.returns-clause-rises
returns-clause-rises c =
    let is = c.shrink_to_fit.ensures.items ∙ dedup_is _ _ _ c.dedup.ensures.filtered in
    subst IsStrictlyIncreasing (sym is) (IsStrictlyIncreasing-dedup _ c.sort_unstable.ensures.sorted)

pub returns-clause-each : goal.returns-clause-each
returns-clause-each c a =
    let is = c.shrink_to_fit.ensures.items ∙ dedup_is _ _ _ c.dedup.ensures.filtered in
    let moved = c.sort_unstable.ensures.permutation in (
      (λ h. Listed-from_distinct _ _ moved a (subst (λ (xs : List ℕ). Listed a xs) is h)),
      (λ h. subst (λ (xs : List ℕ). Listed a xs) (sym is) (Listed-distinct _ _ moved a h)),
    )
