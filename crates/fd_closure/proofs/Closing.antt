-- The one pass over the covers of a row state finds what a column set determines.
use Rattle.std.proofs.Common.{inl, inr, ◌≡◌, ◌⊎◌, ℕ, ◌<◌, ◌^◌, true, false, not, ◌&&◌, ◌||◌, eqb, refl, sym, ap, ◌∙◌, subst, List, map}
use Rattle.std.specs.List.{filter}
use Rattle.std.proofs.lemmas.Bool.{true≢false, and_parts, and_from, or_cases, or_left, or_right, not-true, not_from_false, false_from_ne_true, cases_Bool, eqb-true, eq-eqb}
use Rattle.col_set.specs.declared.target.Target.TheVariants.{Col}
use Rattle.col_set.specs.ColSet.{IsSubset, has, subset, upto, all_sets}
use Rattle.col_set.specs.Members.{has-union, same_set}
use Rattle.col_set.specs.Lists.{Listed, Listed-filter, Listed-filter_parts, Listed-map, Listed-map_which, Listed-flat_map, Listed-flat_map_which, list_any_at, list_any_which}
use Rattle.col_set.specs.AllSets.{set_of-has, has-set_of, Listed-upto, Listed-upto_within, Listed-all_sets, all_sets_below}
use Rattle.col_set.specs.Subsets.{same_test, subset-true, true-subset, subset_below, has_within}
use Rattle.col_set.proofs.Minimal.{IsMinimal-from_test, test_from_IsMinimal, minimal_below}
use Rattle.rel_base.specs.declared.dependency.Fd.{Fd}
use Rattle.rel_base.specs.RowState.{RowState, width}
use Rattle.rel_base.specs.Validity.{holds}
use Rattle.rel_base.specs.Minimality.{min_fd}
use Rattle.rel_base.specs.Covers.{fds_to, covers}
use Rattle.rel_base.proofs.Valid.{holds-more}
use Rattle.fd_closure.specs.Determined.{determined_columns, determines_all}
use Rattle.fd_closure.specs.Closure.{closure_of, has_left_inside}
use Rattle.fd_closure.proofs.Determined.{determined-holds, holds-determined, holds-own, subset-determined}

-- ---- the pass
left_listed : (fds : List Fd) (x a : ℕ) → Listed a (map (λ (fd : Fd). fd.right) (filter (λ (fd : Fd). subset fd.left x) fds)) → has_left_inside fds x a ≡ true
unfolding has_left_inside
left_listed fds x a h =
    let w = Listed-map_which (λ (fd : Fd). fd.right) a (filter (λ (fd : Fd). subset fd.left x) fds) h in
    let v = Listed-filter_parts (λ (fd : Fd). subset fd.left x) w.0 fds w.1 in
    list_any_at (λ (fd : Fd). eqb fd.right a && subset fd.left x) w.0 fds v.0 (and_from _ _ (eq-eqb _ a (sym w.2)) v.1)

listed_left : (fds : List Fd) (x a : ℕ) → has_left_inside fds x a ≡ true → Listed a (map (λ (fd : Fd). fd.right) (filter (λ (fd : Fd). subset fd.left x) fds))
unfolding has_left_inside
listed_left fds x a e =
    let w = list_any_which (λ (fd : Fd). eqb fd.right a && subset fd.left x) fds e in
    let v = and_parts _ _ w.2 in
    subst (λ (k : ℕ). Listed k (map (λ (fd : Fd). fd.right) (filter (λ (fd : Fd). subset fd.left x) fds))) (eqb-true _ a v.0)
    (Listed-map (λ (fd : Fd). fd.right) w.0 _ (Listed-filter (λ (fd : Fd). subset fd.left x) w.0 fds w.1 v.1))

-- it has the columns of X and those with a left side inside X
pub has-closure_of : (fds : List Fd) (x a : ℕ) → has (closure_of fds x) a ≡ (has x a || has_left_inside fds x a)
unfolding closure_of
has-closure_of fds x a = has-union x _ a ∙ ap (λ b. has x a || b) (same_test _ _ (λ e. left_listed fds x a (set_of-has a _ e)) (λ e. has-set_of a _ (listed_left fds x a e)))

-- ---- over the covers
pub record IsMinimalLeft (r : RowState) (fd : Fd) : Type 0 where
  pub column : fd.right < width r
  pub below : fd.left < 2 ^ width r
  pub minimal : min_fd r fd.left fd.right ≡ true

module _ (r : RowState) where
  pub covers-minimal : (fd : Fd) → Listed fd (covers r).fds → IsMinimalLeft r fd
  unfolding covers
  covers-minimal fd h =
      let w = Listed-flat_map_which (λ a. fds_to a (filter (λ x. min_fd r x a) (all_sets (width r)))) fd (upto (width r)) h in
      let v = Listed-map_which (λ x. record { left = x; right = w.0 }) fd (filter (λ x. min_fd r x w.0) (all_sets (width r))) w.2 in
      let p = Listed-filter_parts (λ x. min_fd r x w.0) v.0 (all_sets (width r)) v.1 in
      subst (IsMinimalLeft r) (sym v.2) (record { column = Listed-upto_within (width r) w.0 w.1; below = all_sets_below (width r) v.0 p.0; minimal = p.1 })

  pub minimal-covers : (x a : ℕ) → x < 2 ^ width r → a < width r → min_fd r x a ≡ true → Listed (record { left = x; right = a }) (covers r).fds
  unfolding covers
  minimal-covers x a b l e = Listed-flat_map (λ a. fds_to a (filter (λ x. min_fd r x a) (all_sets (width r)))) a _ (upto (width r)) (Listed-upto (width r) a l)
      (Listed-map (λ x. record { left = x; right = a }) x _ (Listed-filter (λ x. min_fd r x a) x (all_sets (width r)) (Listed-all_sets (width r) x b) e))

  pub minimal-holds : (x a : ℕ) → x < 2 ^ width r → min_fd r x a ≡ true → (has x a ≡ false) × (holds r x (Col a) ≡ true)
  unfolding min_fd
  minimal-holds x a b e = let w = and_parts (not (has x a)) _ e in (not-true _ w.0, (IsMinimal-from_test (width r) (λ y. holds r y (Col a)) x b w.1).passes)

  -- inside what determines a column that it lacks there is a left side of a minimal dependency on that column
  pub minimal_inside : (x a : ℕ) → x < 2 ^ width r → has x a ≡ false → holds r x (Col a) ≡ true → (y : ℕ) × IsSubset y x × (min_fd r y a ≡ true)
  unfolding min_fd
  minimal_inside x a b lacks e =
      let m = minimal_below (λ y. holds r y (Col a)) x e in
      (m.set, m.inside, and_from _ _ (not_from_false _ (false_from_ne_true _ (λ h. true≢false (sym (m.inside.each a h) ∙ lacks)))) (test_from_IsMinimal (width r) (λ y. holds r y (Col a)) m.set m.minimal))

  left_inside-holds : (x a : ℕ) → has_left_inside (covers r).fds x a ≡ true → (a < width r) × (holds r x (Col a) ≡ true)
  unfolding has_left_inside
  left_inside-holds x a e =
      let w = list_any_which (λ (fd : Fd). eqb fd.right a && subset fd.left x) (covers r).fds e in
      let v = and_parts _ _ w.2 in
      let m = covers-minimal w.0 w.1 in
      let i = eqb-true _ a v.0 in (
        subst (λ (k : ℕ). k < width r) i m.column,
        subst (λ (k : ℕ). holds r x (Col k) ≡ true) i (holds-more r w.0.left x (Col w.0.right) (subset-true v.1) (minimal-holds w.0.left w.0.right m.below m.minimal).1),
      )

  holds-left_inside : (x a : ℕ) → x < 2 ^ width r → a < width r → has x a ≡ false → holds r x (Col a) ≡ true → has_left_inside (covers r).fds x a ≡ true
  unfolding has_left_inside
  holds-left_inside x a b l lacks e =
      let m = minimal_inside x a b lacks e in
      list_any_at (λ (fd : Fd). eqb fd.right a && subset fd.left x) _ (covers r).fds (minimal-covers m.0 a (subset_below (width r) m.1 b) l m.2) (and_from _ _ (eq-eqb a a refl) (true-subset m.1))

  pub closure-determined : (x : ℕ) → x < 2 ^ width r → closure_of (covers r).fds x ≡ determined_columns r x
  closure-determined x b = same_set _ _ (λ a. has-closure_of (covers r).fds x a ∙ same_test _ _
      (λ e. out a (or_cases (has x a) (has_left_inside (covers r).fds x a) e))
      (λ e. let w = determined-holds r x a e in in_ a w.0 w.1 (cases_Bool (has x a))))
    where
      out : (a : ℕ) → (has x a ≡ true) ⊎ (has_left_inside (covers r).fds x a ≡ true) → has (determined_columns r x) a ≡ true
      out a (inl e) = holds-determined r x a (has_within x (width r) a b e) (holds-own r x a e)
      out a (inr e) = let w = left_inside-holds x a e in holds-determined r x a w.0 w.1

      in_ : (a : ℕ) → a < width r → holds r x (Col a) ≡ true → (has x a ≡ true) ⊎ (has x a ≡ false) → (has x a || has_left_inside (covers r).fds x a) ≡ true
      in_ a l e (inl h) = or_left _ _ h
      in_ a l e (inr h) = or_right (has x a) _ (holds-left_inside x a b l h e)

  pub closure-determines : (x s : ℕ) → x < 2 ^ width r → s < 2 ^ width r → subset s (closure_of (covers r).fds x) ≡ determines_all r x s
  closure-determines x s b c = ap (subset s) (closure-determined x b) ∙ subset-determined r x s c
