-- The split to BCNF is one lossless split after another.
use Rattle.std.proofs.Common.{◌≡◌, ℕ, zero, suc, true, false, not, ◌&&◌, refl, sym, ◌∙◌, [], ◌∷◌, ◌++◌, Option, Some, None}
use Rattle.std.specs.List.{list_any}
use Rattle.std.proofs.lemmas.Bool.{and_parts, true≢false, not-true}
use Rattle.col_set.specs.declared.target.Target.TheVariants.{Col}
use Rattle.col_set.specs.ColSet.{IsSubset, has, all, inter, minus, union, subset, upto, columns, all_sets}
use Rattle.col_set.specs.Lists.{Listed-filter_parts}
use Rattle.col_set.specs.Members.{has-empty, has-inter, has-minus, same_set}
use Rattle.col_set.specs.Subsets.{same_test, subset-true}
use Rattle.col_set.specs.AllSets.{set_of-has}
use Rattle.rel_base.specs.declared.nulls.Nulls.TheVariants.{Equal}
use Rattle.rel_base.specs.RowState.{RowState, IsRowState, width}
use Rattle.rel_base.proofs.States.{live_climbs}
use Rattle.rel_base.specs.Validity.{holds}
use Rattle.fd_closure.specs.Determined.{determined_columns}
use Rattle.bcnf_split.specs.Bcnf.{violates, first_violation}
use Rattle.bcnf_split.proofs.Found.{find_passes}
use Rattle.bcnf_split.proofs.Splitting.{SplitMeans-splits}
use Rattle.bcnf_split.specs.Split.{dependents, splits_within, splits}
use Rattle.lossless_join.specs.Lossless.{IsLossless, SplitsInto, SplitToBcnf}
use Rattle.lossless_join.specs.Lossless.SplitsInto.{whole, parted}
use Rattle.lossless_join.proofs.Heath.{all-below, IsJoinOf-splits, IsNaturalJoin-splits}

-- what a violating set determines inside S is split off without loss
IsLossless-dependents : (r : RowState) (s x : ℕ) → IsSubset x s → IsLossless r s x (dependents r s x)
unfolding dependents determined_columns
IsLossless-dependents r s x i = record {
  left = i;
  right = record { each = λ k h. (and_parts (has s k) _ (parts k h).0).0 };
  disjoint = same_set _ 0 (λ k. same_test _ _
      (λ e. let q = and_parts (has x k) (has (minus (inter s (determined_columns r x)) x) k) (sym (has-inter x (minus (inter s (determined_columns r x)) x) k) ∙ e) in absurd (true≢false (sym q.0 ∙ (parts k q.1).1)))
      (λ e. absurd (true≢false (sym e ∙ has-empty k))));
  determines = λ a h. (Listed-filter_parts (λ a. holds r x (Col a)) a (upto (width r)) (set_of-has a _ (and_parts (has s a) _ (parts a h).0).1)).1;
}
  where
    parts : (k : ℕ) → has (minus (inter s (determined_columns r x)) x) k ≡ true → ((has s k && has (determined_columns r x) k) ≡ true) × (has x k ≡ false)
    parts k h =
        let q = and_parts (has (inter s (determined_columns r x)) k) (not (has x k)) (sym (has-minus (inter s (determined_columns r x)) x k) ∙ h) in
        (sym (has-inter s (determined_columns r x) k) ∙ q.0, not-true _ q.1)

first-inside : (r : RowState) (s x : ℕ) → first_violation r s ≡ Some x → IsSubset x s
unfolding first_violation violates
first-inside r s x e = subset-true (and_parts (subset x s) _ (and_parts (subset x s && list_any (λ a. not (has x a) && holds r x (Col a)) (columns s)) _ (find_passes (violates r s) (all_sets (width r)) x e).1).0).0

SplitsInto-within : (n : ℕ) (r : RowState) (s : ℕ) → SplitsInto r s (splits_within n r s)
unfolding splits_within
SplitsInto-within zero r s = whole
SplitsInto-within (suc n) r s = by (first_violation r s) refl (λ t. SplitsInto-within n r t)
  where
    by : (o : Option ℕ) → first_violation r s ≡ o → ((t : ℕ) → SplitsInto r t (splits_within n r t)) → SplitsInto r s (elim o [ None ↦ s ∷ [] | Some x ↦ splits_within n r (minus s (dependents r s x)) ++ splits_within n r (union x (dependents r s x)) ])
    by None e rest = whole
    by (Some x) e rest = parted (IsLossless-dependents r s x (first-inside r s x e)) (rest (minus s (dependents r s x))) (rest (union x (dependents r s x)))

pub SplitsInto-splits : (r : RowState) (s : ℕ) → SplitsInto r s (splits r s)
SplitsInto-splits r s = SplitsInto-within s r s

pub SplitToBcnf-splits : (r : RowState) → IsRowState r → r.nulls ≡ Equal → SplitToBcnf r
SplitToBcnf-splits r is equal = record {
  normal = (SplitMeans-splits r (all (width r)) (live_climbs r is) (all-below (width r))).normal;
  columns = (IsJoinOf-splits r is equal (all (width r)) (splits r (all (width r))) (all-below (width r)) (SplitsInto-splits r (all (width r)))).columns;
  joined = IsNaturalJoin-splits r is equal (splits r (all (width r))) (SplitsInto-splits r (all (width r)));
}
