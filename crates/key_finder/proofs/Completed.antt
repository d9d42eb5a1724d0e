-- The keys inside some columns are the least sets of the agree sets that lack one of them, with all columns outside.
use Rattle.std.proofs.Common.{inl, inr, ◌≡◌, ◌⊎◌, ℕ, ◌^◌, ◌<◌, Bool, true, false, not, ◌&&◌, ◌||◌, refl, sym, ap, ◌∙◌, subst, List, map}
use Rattle.std.specs.List.{filter}
use Rattle.std.proofs.lemmas.Bool.{and_parts, and_from, or_cases, or_left, or_right, true≢false, not-true, not_from_false, false_from_ne_true, lt-ltb}
use Rattle.col_set.specs.declared.target.Target.TheVariants.{RowId}
use Rattle.col_set.specs.ColSet.{IsSubset, has, inter, minus, union, all, subset, report_cmp, all_sets}
use Rattle.col_set.specs.Columns.{report_total}
use Rattle.col_set.specs.Target.{has_target}
use Rattle.col_set.specs.Evidence.{refuted, least, IsLeast}
use Rattle.col_set.specs.Minimal.{is_minimal}
use Rattle.col_set.specs.Members.{has-all, has-inter, has-minus, has-union, same_set}
use Rattle.col_set.specs.Subsets.{IsSubset-trans, same_test, subset-true, true-subset, subset_below, has_within}
use Rattle.col_set.specs.Lists.{Listed, Rises-filter, Listed-map, Listed-map_which, Listed-filter, Listed-filter_parts, list_any_at, list_any_which}
use Rattle.col_set.specs.AllSets.{Listed-all_sets, all_sets_below, Rises-all_sets}
use Rattle.col_set.proofs.Minimal.{IsMinimal-from_test, test_from_IsMinimal}
use Rattle.col_set.proofs.Least.{Listed-least, IsLeast-listed}
use Rattle.col_set.proofs.More.{Rises-least}
use Rattle.col_set.proofs.Places.{same_rising}
use Rattle.key_finder.specs.Keys.{told_apart, keys_within, completed}
use Rattle.key_finder.proofs.Tells.{told_by, told_from}

inter_inside : (x s : ℕ) → IsSubset (inter x s) s
inter_inside x s = record { each = λ k h. (and_parts (has x k) (has s k) (sym (has-inter x s k) ∙ h)).1 }

inter_less : (x s : ℕ) → IsSubset (inter x s) x
inter_less x s = record { each = λ k h. (and_parts (has x k) (has s k) (sym (has-inter x s k) ∙ h)).0 }

inter_self : (x s : ℕ) → IsSubset x s → inter x s ≡ x
inter_self x s i = same_set _ _ (λ k. has-inter x s k ∙ same_test _ _ (λ e. (and_parts (has x k) (has s k) e).0) (λ e. and_from _ _ e (i.each k e)))

module _ (n s : ℕ) (ws : List ℕ) (bound : s < 2 ^ n) where
  -- ---- what the completed agree sets refute
  refuted-told : (x : ℕ) → refuted (completed n s ws) RowId x ≡ true → told_apart ws s (inter x s) ≡ true
  unfolding refuted has_target
  refuted-told x e =
      let v = list_any_which (λ w. subset x w && not (has_target w RowId)) (completed n s ws) e in
      let m = Listed-map_which (λ w. union w (minus (all n) s)) v.0 (filter (λ w. not (subset s w)) ws) v.1 in
      let q = Listed-filter_parts (λ w. not (subset s w)) m.0 ws m.1 in
      let i : IsSubset x v.0 = subset-true (and_parts (subset x v.0) (not (has_target v.0 RowId)) v.2).0 in
      told_from ws s (inter x s) m.0 q.0 (true-subset (record {
        each = λ k h. at m.0 k ((inter_inside x s).each k h)
            (sym (ap (λ (z : ℕ). has z k) m.2 ∙ has-union m.0 (minus (all n) s) k) ∙ i.each k ((inter_less x s).each k h));
      })) (not-true _ q.1)
    where
      at : (w k : ℕ) → has s k ≡ true → (has w k || has (minus (all n) s) k) ≡ true → has w k ≡ true
      at w k h e = by (or_cases (has w k) _ e)
        where
          by : (has w k ≡ true) ⊎ (has (minus (all n) s) k ≡ true) → has w k ≡ true
          by (inl g) = g
          by (inr g) = absurd (true≢false (sym h ∙ not-true _ (and_parts (has (all n) k) (not (has s k)) (sym (has-minus (all n) s k) ∙ g)).1))

  told-refuted : (x : ℕ) → x < 2 ^ n → told_apart ws s (inter x s) ≡ true → refuted (completed n s ws) RowId x ≡ true
  unfolding refuted has_target
  told-refuted x b e =
      let v = told_by ws s (inter x s) e in
      list_any_at (λ w. subset x w && not (has_target w RowId)) (union v.0 (minus (all n) s)) (completed n s ws)
      (Listed-map (λ w. union w (minus (all n) s)) v.0 (filter (λ w. not (subset s w)) ws) (Listed-filter (λ w. not (subset s w)) v.0 ws v.1 (ap not v.3)))
      (and_from _ _ (true-subset (record { each = λ k h. has-union v.0 (minus (all n) s) k ∙ at v.0 k (subset-true v.2) h (has s k) refl })) refl)
    where
      at : (w k : ℕ) → IsSubset (inter x s) w → has x k ≡ true → (t : Bool) → has s k ≡ t → (has w k || has (minus (all n) s) k) ≡ true
      at w k i h true g = or_left _ _ (i.each k (has-inter x s k ∙ and_from _ _ h g))
      at w k i h false g = or_right (has w k) _ (has-minus (all n) s k ∙ and_from _ _ (has-all n k ∙ lt-ltb k n (has_within x n k b h)) (ap not g))

  -- inside s the one test is the other
  told-inside : (y : ℕ) → IsSubset y s → refuted (completed n s ws) RowId y ≡ told_apart ws s y
  told-inside y i = same_test _ _
      (λ e. subst (λ (z : ℕ). told_apart ws s z ≡ true) (inter_self y s i) (refuted-told y e))
      (λ e. told-refuted y (subset_below n i bound) (subst (λ (z : ℕ). told_apart ws s z ≡ true) (sym (inter_self y s i)) e))

  -- a least set has no column outside s, which no agree set would miss
  least-inside : (x : ℕ) → IsLeast n (completed n s ws) RowId x → IsSubset x s
  least-inside x l =
      let stands : told_apart ws s (inter x s) ≡ false = false_from_ne_true _ (λ e. true≢false (sym (told-refuted x l.below e) ∙ l.stands)) in
      let same : inter x s ≡ x = l.smallest (inter x s) (inter_less x s) (told-inside (inter x s) (inter_inside x s) ∙ stands) in
      subst (λ (z : ℕ). IsSubset z s) same (inter_inside x s)

  pub keys_are : (m : ℕ) → s < 2 ^ m → least n (completed n s ws) RowId ≡ keys_within m ws s
  unfolding keys_within has_target
  keys_are m few = same_rising report_total _ _ (Rises-least n (completed n s ws) RowId) (Rises-filter report_cmp _ (all_sets m) (Rises-all_sets m))
      (λ x h.
      let l = IsLeast-listed n (completed n s ws) RowId x h in
      let i = least-inside x l in
      Listed-filter (λ x. subset x s && is_minimal m (λ y. not (told_apart ws s y)) x) x (all_sets m) (Listed-all_sets m x (subset_below m i few))
      (and_from _ _ (true-subset i) (test_from_IsMinimal m (λ y. not (told_apart ws s y)) x (record {
        passes = not_from_false _ (sym (told-inside x i) ∙ l.stands);
        smallest = λ y j e. l.smallest y j (told-inside y (IsSubset-trans j i) ∙ not-true _ e);
      }))))
      (λ x h.
      let w = Listed-filter_parts (λ x. subset x s && is_minimal m (λ y. not (told_apart ws s y)) x) x (all_sets m) h in
      let q = and_parts (subset x s) (is_minimal m (λ y. not (told_apart ws s y)) x) w.1 in
      let i = subset-true q.0 in
      let k = IsMinimal-from_test m (λ y. not (told_apart ws s y)) x (all_sets_below m x w.0) q.1 in
      Listed-least n (completed n s ws) RowId x (record {
        below = subset_below n i bound;
        lacks = refl;
        stands = told-inside x i ∙ not-true _ k.passes;
        smallest = λ y j e. k.smallest y j (not_from_false _ (sym (told-inside y (IsSubset-trans j i)) ∙ e));
      }))
