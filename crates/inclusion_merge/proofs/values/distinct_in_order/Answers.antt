use Rattle.std.proofs.Common.{◌∙◌, ℕ, List, sym, subst}
use Rattle.std.proofs.lemmas.List.Filters.{dedup_is}
use Rattle.col_set.specs.Lists.{Listed, Rises}
use Rattle.inclusion_merge.specs.Values.{value_cmp}
use Rattle.inclusion_merge.proofs.Cells.{Listed-from_kept, Listed-kept, Rises-dedup}
use Rattle.inclusion_merge.proofs.values.distinct_in_order.Goals as goal

pub returns-clause-rises : goal.returns-clause-rises
returns-clause-rises c =
    let is = c.shrink_to_fit.ensures.items ∙ dedup_is _ _ _ c.dedup.ensures.filtered in
    subst (λ (xs : List (List ℕ)). Rises value_cmp xs) (sym is) (Rises-dedup _ c.sort_unstable.ensures.sorted)

pub returns-clause-each : goal.returns-clause-each
returns-clause-each c a =
    let is = c.shrink_to_fit.ensures.items ∙ dedup_is _ _ _ c.dedup.ensures.filtered in
    let moved = c.sort_unstable.ensures.permutation in (
      (λ h. Listed-from_kept _ _ moved a (subst (λ (xs : List (List ℕ)). Listed a xs) is h)),
      (λ h. subst (λ (xs : List (List ℕ)). Listed a xs) (sym is) (Listed-kept _ _ moved a h)),
    )
