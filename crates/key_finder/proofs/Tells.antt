-- What the keys by agree sets have to do with the keys of projections.
use Rattle.std.proofs.Common.{inl, inr, ◌≡◌, ◌⊎◌, ◌↔◌, ℕ, ◌^◌, ◌<◌, Bool, true, false, not, ◌&&◌, refl, sym, ap, ◌∙◌, subst, List, [], ◌∷◌, map}
use Rattle.std.specs.List.{filter, flat_map, list_any, Contains}
use Rattle.std.proofs.lemmas.Bool.{and_parts, and_from, true≢false, not-true, not_from_false, false_from_ne_true}
use Rattle.col_set.specs.declared.target.Target.{Target}
use Rattle.col_set.specs.declared.target.Target.TheVariants.{Col, RowId}
use Rattle.col_set.specs.ColSet.{IsSubset, has, subset, upto, all_sets}
use Rattle.col_set.specs.Target.{has_target}
use Rattle.col_set.specs.Evidence.{refuted, least}
use Rattle.col_set.specs.Minimal.{is_minimal, IsMinimal}
use Rattle.col_set.specs.Subsets.{IsSubset-trans, same_test, subset-true, true-subset, subset_below, has_within}
use Rattle.col_set.specs.Lists.{Listed, filter_same, Listed-map, Listed-map_which, Listed-flat_map, Listed-flat_map_which, list_any_at, list_any_which}
use Rattle.col_set.specs.AllSets.{all_sets_below, Listed-upto, Listed-upto_within}
use Rattle.col_set.proofs.Minimal.{IsMinimal-from_test, test_from_IsMinimal}
use Rattle.col_set.proofs.Least.{IsLeast-listed, Listed-least, least_below, refuted_inside}
use Rattle.rel_base.specs.declared.nulls.Nulls.TheVariants.{Equal}
use Rattle.rel_base.specs.declared.dependency.Fd.{Fd}
use Rattle.rel_base.specs.CodeTable.{CodeTable}
use Rattle.rel_base.specs.RowState.{RowState, IsRowState, width}
use Rattle.rel_base.specs.Validity.{agree_sets, holds, determined}
use Rattle.rel_base.specs.Covers.{CoverLists, fds_to, covers, least_covers}
use Rattle.rel_base.specs.Shows.{Shows, code_agree_sets}
use Rattle.rel_base.proofs.Minima.{covers-least}
use Rattle.rel_base.proofs.Shown.{code_agree_sets-shown}
use Rattle.rel_base.proofs.Valid.{determined-at, determined-from}
use Rattle.lossless_join.specs.Parts.{projection_holds, projection_keys}
use Rattle.lossless_join.proofs.Projected.{unique-determines, determines-unique}
use Rattle.key_finder.specs.Keys.{told_apart, keys_within}

-- ---- tests that agree inside s keep the same minimal sets
module _ (n s : ℕ) (p q : ℕ → Bool) (same : (y : ℕ) → IsSubset y s → p y ≡ q y) where
  minimal_same : (x : ℕ) → IsSubset x s → IsMinimal p x → IsMinimal q x
  minimal_same x i m = record { passes = sym (same x i) ∙ m.passes; smallest = λ y j e. m.smallest y j (same y (IsSubset-trans j i) ∙ e) }

  kept_same : (x : ℕ) → x < 2 ^ n → (subset x s && is_minimal n p x) ≡ true → (subset x s && is_minimal n q x) ≡ true
  kept_same x b e =
      let w = and_parts (subset x s) (is_minimal n p x) e in
      and_from _ _ w.0 (test_from_IsMinimal n q x (minimal_same x (subset-true w.0) (IsMinimal-from_test n p x b w.1)))

pub keys_same : (n s : ℕ) (p q : ℕ → Bool) → ((y : ℕ) → IsSubset y s → p y ≡ q y) → filter (λ x. subset x s && is_minimal n p x) (all_sets n) ≡ filter (λ x. subset x s && is_minimal n q x) (all_sets n)
keys_same n s p q same = filter_same _ _ (all_sets n) (λ x l. same_test _ _ (kept_same n s p q same x (all_sets_below n x l)) (kept_same n s q p (λ y i. sym (same y i)) x (all_sets_below n x l)))

-- ---- what tells rows apart on s
module _ (ws : List ℕ) (s : ℕ) where
  -- it lacks a column of s
  pub told_by : (x : ℕ) → told_apart ws s x ≡ true → (w : ℕ) × Listed w ws × (subset x w ≡ true) × (subset s w ≡ false)
  unfolding told_apart
  told_by x e =
      let w = list_any_which (λ w. subset x w && not (subset s w)) ws e in
      let q = and_parts (subset x w.0) (not (subset s w.0)) w.2 in
      (w.0, w.1, q.0, not-true _ q.1)

  pub told_from : (x w : ℕ) → Listed w ws → subset x w ≡ true → subset s w ≡ false → told_apart ws s x ≡ true
  unfolding told_apart
  told_from x w l e f = list_any_at (λ w. subset x w && not (subset s w)) w ws l (and_from _ _ e (ap not f))

  -- x determines each column of s exactly where nothing tells rows apart that agree on it
  pub stands-determines : (x : ℕ) → told_apart ws s x ≡ false → (a : ℕ) → has s a ≡ true → determined ws x (Col a) ≡ true
  unfolding has_target
  stands-determines x n a h = determined-from ws x (Col a) (λ w l i. by w l i (subset s w) refl)
    where
      by : (w : ℕ) → Listed w ws → IsSubset x w → (b : Bool) → subset s w ≡ b → has w a ≡ true
      by w l i true e = (subset-true e).each a h
      by w l i false e = absurd (true≢false (sym (told_from x w l (true-subset i) e) ∙ n))

  pub determines-stands : (x : ℕ) → ((a : ℕ) → has s a ≡ true → determined ws x (Col a) ≡ true) → told_apart ws s x ≡ false
  unfolding has_target
  determines-stands x f = false_from_ne_true _ (λ e.
      let w = told_by x e in
      true≢false (sym (true-subset (record { each = λ a h. determined-at ws x (Col a) w.0 (f a h) w.1 (subset-true w.2) })) ∙ w.3))

-- ---- by the agree sets of the live rows
pub AgreeSets-tell : (r : RowState) (s : ℕ) → IsRowState r → r.nulls ≡ Equal → s < 2 ^ width r → projection_keys r s ≡ keys_within (width r) (agree_sets r) s
unfolding projection_keys keys_within holds
AgreeSets-tell r s is equal bound = keys_same (width r) s (λ y. projection_holds r s y RowId) (λ y. not (told_apart (agree_sets r) s y)) (λ y i. same_test _ _
    (λ e. not_from_false _ (determines-stands (agree_sets r) s y (unique-determines r is equal s y bound i e)))
    (λ e. determines-unique r is equal s y bound i (stands-determines (agree_sets r) s y (not-true _ e))))

pub Snapshots-tell : (t : CodeTable) (r : RowState) (s : ℕ) → IsRowState r → Shows t r → r.nulls ≡ Equal → s < 2 ^ width r → projection_keys r s ≡ keys_within (width r) (code_agree_sets t) s
Snapshots-tell t r s is shows equal bound = AgreeSets-tell r s is equal bound ∙ ap (λ (ws : List ℕ). keys_within (width r) ws s) (sym (code_agree_sets-shown t r is shows))

-- ---- by agree sets that leave the same covers
-- the left sides of a column's dependencies
Listed-fds : (n : ℕ) (ws : List ℕ) (x a : ℕ) → a < n → Listed x (least n ws (Col a)) → Listed {X = Fd} (record { left = x; right = a }) (least_covers n ws).fds
unfolding least_covers
Listed-fds n ws x a l h = Listed-flat_map (λ a. fds_to a (least n ws (Col a))) a (record { left = x; right = a }) (upto n) (Listed-upto n a l) (Listed-map (λ x. record { left = x; right = a }) x (least n ws (Col a)) h)

fds-listed : (n : ℕ) (ws : List ℕ) (x a : ℕ) → Listed {X = Fd} (record { left = x; right = a }) (least_covers n ws).fds → Listed x (least n ws (Col a))
unfolding least_covers
fds-listed n ws x a h =
    let w = Listed-flat_map_which (λ a. fds_to a (least n ws (Col a))) (record { left = x; right = a }) (upto n) h in
    let v = Listed-map_which (λ x. record { left = x; right = w.0 }) (record { left = x; right = a }) (least n ws (Col w.0)) w.2 in
    let e : x ≡ v.0 = ap (λ (f : Fd). f.left) v.2 in
    let f : a ≡ w.0 = ap (λ (f : Fd). f.right) v.2 in
    subst (λ (b : ℕ). Listed x (least n ws (Col b))) (sym f) (subst (λ (y : ℕ). Listed y (least n ws (Col w.0))) (sym e) v.1)

module _ (n : ℕ) (vs ws : List ℕ) (same : (least_covers n vs).fds ≡ (least_covers n ws).fds) where
  -- what the one list refutes the other refutes
  refuted-too : (x a : ℕ) → x < 2 ^ n → a < n → refuted vs (Col a) x ≡ true → refuted ws (Col a) x ≡ true
  unfolding refuted has_target
  refuted-too x a b l e = by (refuted ws (Col a) x) refl
    where
      lacks : has x a ≡ false
      lacks =
          let w = list_any_which (λ w. subset x w && not (has_target w (Col a))) vs e in
          let q = and_parts (subset x w.0) (not (has_target w.0 (Col a))) w.2 in
          false_from_ne_true _ (λ h. true≢false (sym ((subset-true q.0).each a h) ∙ not-true _ q.1))

      by : (t : Bool) → refuted ws (Col a) x ≡ t → refuted ws (Col a) x ≡ true
      by true i = i
      by false i =
          let k = least_below n ws (Col a) x b lacks i in
          let l = fds-listed n vs k.0 a (subst (λ (fds : List Fd). Listed {X = Fd} (record { left = k.0; right = a }) fds) (sym same) (Listed-fds n ws k.0 a l (Listed-least n ws (Col a) k.0 k.1))) in
          absurd (true≢false (sym (refuted_inside vs (Col a) k.2 e) ∙ (IsLeast-listed n vs (Col a) k.0 l).stands))

  told-too : (s x : ℕ) → s < 2 ^ n → IsSubset x s → told_apart vs s x ≡ true → told_apart ws s x ≡ true
  unfolding refuted has_target
  told-too s x bound i e = by (told_apart ws s x) refl
    where
      by : (t : Bool) → told_apart ws s x ≡ t → told_apart ws s x ≡ true
      by true h = h
      by false h =
          let w = told_by vs s x e in
          absurd (true≢false (sym (true-subset (record { each = λ a g. at w.0 w.1 w.2 a g (has w.0 a) refl })) ∙ w.3))
        where
          at : (w : ℕ) → Listed w vs → subset x w ≡ true → (a : ℕ) → has s a ≡ true → (t : Bool) → has w a ≡ t → has w a ≡ true
          at w l f a g true j = j
          at w l f a g false j =
              let told = refuted-too x a (subset_below n i bound) (has_within s n a bound g) (list_any_at (λ w. subset x w && not (has_target w (Col a))) w vs l (and_from _ _ f (ap not j))) in
              let v = list_any_which (λ w. subset x w && not (has_target w (Col a))) ws told in
              let q = and_parts (subset x v.0) (not (has_target v.0 (Col a))) v.2 in
              absurd (true≢false (sym (determined-at ws x (Col a) v.0 (stands-determines ws s x h a g) v.1 (subset-true q.0)) ∙ not-true _ q.1))

pub Evidence-tells : (r : RowState) (ws : List ℕ) (s : ℕ) → IsRowState r → r.nulls ≡ Equal → s < 2 ^ width r → covers r ≡ least_covers (width r) ws → projection_keys r s ≡ keys_within (width r) ws s
unfolding keys_within
Evidence-tells r ws s is equal bound e = AgreeSets-tell r s is equal bound ∙ keys_same (width r) s (λ y. not (told_apart (agree_sets r) s y)) (λ y. not (told_apart ws s y)) (λ y i. ap not (same_test _ _
    (told-too (width r) (agree_sets r) ws (ap (λ (c : CoverLists). c.fds) (sym (covers-least r) ∙ e)) s y bound i)
    (told-too (width r) ws (agree_sets r) (ap (λ (c : CoverLists). c.fds) (sym e ∙ covers-least r)) s y bound i)))
