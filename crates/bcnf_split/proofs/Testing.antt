-- The test of one left side against a table, by its closure.
use Rattle.std.proofs.Common.{inl, inr, ◌≡◌, ◌≢◌, ◌⊎◌, ℕ, ◌<◌, ◌^◌, Bool, true, false, not, ◌&&◌, sym, ap, ◌∙◌, subst, arith}
use Rattle.std.specs.List.{Contains}
use Rattle.std.proofs.lemmas.Bool.{true≢false, and_parts, and_from, or_cases, not-true, not_from_false, false_from_ne_true}
use Rattle.col_set.specs.declared.target.Target.TheVariants.{Col, RowId}
use Rattle.col_set.specs.ColSet.{Columns, IsSubset, has, subset, union, inter, minus, all_sets}
use Rattle.col_set.specs.Columns.{lt-pow}
use Rattle.col_set.specs.Members.{has-union, has-inter, has-minus}
use Rattle.col_set.specs.Lists.{Listed, Listed-filter_parts}
use Rattle.col_set.specs.AllSets.{all_sets_below}
use Rattle.col_set.specs.Subsets.{IsSubset-le, IsSubset-antisymm, has_within, subset_below}
use Rattle.col_set.proofs.Minimal.{IsMinimal-from_test}
use Rattle.col_set.proofs.Places.{Listed-contained}
use Rattle.rel_base.specs.RowState.{RowState, width}
use Rattle.rel_base.specs.Validity.{holds, unique}
use Rattle.rel_base.specs.Minimality.{min_key}
use Rattle.rel_base.specs.Covers.{CoverLists, covers}
use Rattle.rel_base.proofs.Valid.{holds-key}
use Rattle.fd_closure.specs.Determined.{determined_columns, determines_all}
use Rattle.fd_closure.specs.Closure.{closure_of}
use Rattle.fd_closure.proofs.Determined.{determined-holds, holds-determined, holds-all}
use Rattle.fd_closure.proofs.Closing.{closure-determined, closure-determines}
use Rattle.bcnf_split.specs.Bcnf.{IsTableOf, violates}
use Rattle.bcnf_split.specs.Split.{dependents}
use Rattle.bcnf_split.specs.Search.{IsParting, IsViolation}
use Rattle.bcnf_split.proofs.Found.{same_or_less}
use Rattle.bcnf_split.proofs.Violating.{violates-parts, violates-from}

-- ---- what is parted is smaller, whatever the closure is
module _ (s x reached d : Columns) (inside : IsSubset x s) (own : IsSubset x reached) (is : d ≡ inter s reached) where
  determined-parts : (a : ℕ) → has d a ≡ true → (has s a ≡ true) × (has reached a ≡ true)
  determined-parts a e = and_parts (has s a) (has reached a) (sym (has-inter s reached a) ∙ ap (λ (z : ℕ). has z a) (sym is) ∙ e)

  determined-from : (a : ℕ) → has s a ≡ true → has reached a ≡ true → has d a ≡ true
  determined-from a e h = ap (λ (z : ℕ). has z a) is ∙ has-inter s reached a ∙ and_from _ _ e h

  pub determined-own : IsSubset x d
  determined-own = record { each = λ a e. determined-from a (inside.each a e) (own.each a e) }

  -- a column that is determined and not in x
  pub determined-more : d ≢ x → (c : ℕ) × (has x c ≡ false) × (has d c ≡ true)
  determined-more ne = by (same_or_less d x d (lt-pow d) determined-own)
    where
      by : (x ≡ d) ⊎ ((c : ℕ) × (has x c ≡ false) × (has d c ≡ true)) → (c : ℕ) × (has x c ≡ false) × (has d c ≡ true)
      by (inl e) = absurd (ne (sym e))
      by (inr w) = w

  rest_within : (more : ℕ) → IsSubset (minus s more) s
  rest_within more = record { each = λ a e. (and_parts _ _ (sym (has-minus s more a) ∙ e)).0 }

  pub rest-smaller : (more : ℕ) → more ≡ minus d x → d ≢ x → minus s more < s
  rest-smaller more e ne =
      let w = determined-more ne in
      let l = IsSubset-le (rest_within more) in
      let h : has more w.0 ≡ true = ap (λ (z : ℕ). has z w.0) e ∙ has-minus d x w.0 ∙ and_from _ _ w.2 (not_from_false _ w.1) in
      let other : minus s more ≢ s = λ i. true≢false (sym h ∙ not-true _ (and_parts (has s w.0) (not (has more w.0)) (sym (has-minus s more w.0) ∙ ap (λ (z : ℕ). has z w.0) i ∙ (determined-parts w.0 w.2).0)).1) in
      omega arith

  moved_cases : (more a : ℕ) → more ≡ minus d x → has (union x more) a ≡ true → has d a ≡ true
  moved_cases more a e h = by (or_cases (has x a) (has more a) (sym (has-union x more a) ∙ h))
    where
      by : (has x a ≡ true) ⊎ (has more a ≡ true) → has d a ≡ true
      by (inl g) = determined-own.each a g
      by (inr g) = (and_parts (has d a) (not (has x a)) (sym (has-minus d x a) ∙ ap (λ (z : ℕ). has z a) (sym e) ∙ g)).0

  moved_within : (more : ℕ) → more ≡ minus d x → IsSubset (union x more) s
  moved_within more e = record { each = λ a h. (determined-parts a (moved_cases more a e h)).0 }

  pub moved-smaller : (more : ℕ) → more ≡ minus d x → d ≢ s → union x more < s
  moved-smaller more e ne =
      let l = IsSubset-le (moved_within more e) in
      let other : union x more ≢ s = λ i. ne (IsSubset-antisymm (record { each = λ a h. (determined-parts a h).0 }) (record { each = λ a h. moved_cases more a e (ap (λ (z : ℕ). has z a) i ∙ h) })) in
      omega arith

  pub IsParting-parted : (more : ℕ) → more ≡ minus d x → d ≢ s → d ≢ x → IsParting s (record { left = x; dependents = more })
  IsParting-parted more e n k = record { rest = rest-smaller more e k; moved = moved-smaller more e n }

-- ---- by the covers of a row state
module _ (lists : CoverLists) (r : RowState) (s : Columns) (table : IsTableOf lists r s) where
  module _ (x : Columns) (inside : IsSubset x s) where
    below : x < 2 ^ width r
    below = subset_below (width r) inside table.below

    pub closed : closure_of lists.fds x ≡ determined_columns r x
    closed = ap (λ (l : CoverLists). closure_of l.fds x) table.own ∙ closure-determined r x (subset_below (width r) inside table.below)

    pub answered : (answer : Bool) → answer ≡ subset s (closure_of lists.fds x) → answer ≡ determines_all r x s
    answered answer h = h ∙ ap (λ (l : CoverLists). subset s (closure_of l.fds x)) table.own ∙ closure-determines r x s (subset_below (width r) inside table.below) table.below

    -- all of s is determined
    pub all-not_violating : determines_all r x s ≡ true → violates r s x ≡ false
    all-not_violating e = false_from_ne_true _ (λ h. true≢false (sym e ∙ (violates-parts r s x h).short))

    module _ (reached d : Columns) (same : reached ≡ closure_of lists.fds x) (is : d ≡ inter s reached) where
      determined-has : (a : ℕ) → has d a ≡ (has s a && has (determined_columns r x) a)
      determined-has a = ap (λ (z : ℕ). has z a) is ∙ has-inter s reached a ∙ ap (λ (z : ℕ). has s a && has z a) (same ∙ closed)

      -- d is all of s, or x alone
      pub whole-not_violating : d ≡ s → violates r s x ≡ false
      whole-not_violating e = all-not_violating (holds-all r x s (λ a h. (determined-holds r x a (and_parts (has s a) _ (sym (determined-has a) ∙ ap (λ (z : ℕ). has z a) e ∙ h)).1).1))

      pub own-not_violating : d ≡ x → violates r s x ≡ false
      own-not_violating e = false_from_ne_true _ (λ h. let v = violates-parts r s x h in
          true≢false (sym (determined-has v.column ∙ and_from _ _ v.own (holds-determined r x v.column (has_within s (width r) v.column table.below v.own) v.determined)) ∙ ap (λ (z : ℕ). has z v.column) e ∙ v.outside))

      -- else it is a violation
      pub IsViolation-found : (more : ℕ) → IsSubset x reached → more ≡ minus d x → d ≢ x → determines_all r x s ≡ false → IsViolation r s (record { left = x; dependents = more })
      unfolding dependents
      IsViolation-found more own e ne short =
          let w = determined-more s x reached d inside own is ne in
          let q = and_parts (has s w.0) (has (determined_columns r x) w.0) (sym (determined-has w.0) ∙ w.2) in
          record {
            violating = violates-from r s x (record { inside = inside; column = w.0; own = q.0; outside = w.1; determined = (determined-holds r x w.0 q.1).1; short = short });
            all = e ∙ ap (λ (z : ℕ). minus z x) (is ∙ ap (inter s) (same ∙ closed));
          }

  -- a key determines all of s
  key-holds : (x : ℕ) → Listed x (covers r).keys → holds r x RowId ≡ true
  unfolding covers min_key
  key-holds x h = let w = Listed-filter_parts (min_key r) x (all_sets (width r)) h in (IsMinimal-from_test (width r) (unique r) x (all_sets_below (width r) x w.0) w.1).passes

  pub key-not_violating : (x : ℕ) → Contains lists.keys x → violates r s x ≡ false
  key-not_violating x h = false_from_ne_true _ (λ e. let v = violates-parts r s x e in
      true≢false (sym (holds-all r x s (λ a g. holds-key r x (Col a) (key-holds x (Listed-contained x (covers r).keys (subst (λ (l : CoverLists). Contains l.keys x) table.own h))))) ∙ v.short))
