-- The two parts of a table that a violation parts: each lies inside the table and lacks a column of it.
use Rattle.std.proofs.Common.{inl, inr, ◌≡◌, ◌≢◌, ◌⊎◌, ℕ, ◌<◌, ◌^◌, true, false, sym, ap, ◌∙◌, arith}
use Rattle.std.proofs.lemmas.Bool.{true≢false, and_parts, and_from, or_cases, or_left, or_right, not-true, not_from_false, cases_Bool}
use Rattle.col_set.specs.declared.target.Target.TheVariants.{Col}
use Rattle.col_set.specs.ColSet.{Columns, IsSubset, has, union, inter, minus}
use Rattle.col_set.specs.Members.{has-union, has-inter, has-minus}
use Rattle.col_set.specs.Subsets.{IsSubset-le, has_within}
use Rattle.rel_base.specs.RowState.{RowState, width}
use Rattle.rel_base.specs.Validity.{holds}
use Rattle.fd_closure.specs.Determined.{determined_columns}
use Rattle.fd_closure.proofs.Determined.{determined-holds, holds-determined, holds-all, holds-own}
use Rattle.bcnf_split.specs.Split.{dependents}
use Rattle.bcnf_split.proofs.Violating.{Violating}

module _ (r : RowState) (s x : Columns) where
  -- ---- what X determines in S outside X
  pub record Dependent (a : ℕ) : Type 0 where
    pub own : has s a ≡ true
    pub outside : has x a ≡ false
    pub determined : holds r x (Col a) ≡ true

  pub dependents-parts : (a : ℕ) → has (dependents r s x) a ≡ true → Dependent a
  unfolding dependents
  dependents-parts a e =
      let w = and_parts _ _ (sym (has-minus (inter s (determined_columns r x)) x a) ∙ e) in
      let v = and_parts _ _ (sym (has-inter s (determined_columns r x) a) ∙ w.0) in
      record { own = v.0; outside = not-true _ w.1; determined = (determined-holds r x a v.1).1 }

  pub dependents-from : (a : ℕ) → s < 2 ^ width r → Dependent a → has (dependents r s x) a ≡ true
  unfolding dependents
  dependents-from a b d =
      has-minus (inter s (determined_columns r x)) x a
      ∙ and_from _ _ (has-inter s (determined_columns r x) a ∙ and_from _ _ d.own (holds-determined r x a (has_within s (width r) a b d.own) d.determined)) (not_from_false _ d.outside)

  -- ---- the parts
  pub rest-parts : (a : ℕ) → has (minus s (dependents r s x)) a ≡ true → (has s a ≡ true) × (has (dependents r s x) a ≡ false)
  rest-parts a e = let w = and_parts _ _ (sym (has-minus s (dependents r s x) a) ∙ e) in (w.0, not-true _ w.1)

  pub rest-from : (a : ℕ) → has s a ≡ true → has (dependents r s x) a ≡ false → has (minus s (dependents r s x)) a ≡ true
  rest-from a e d = has-minus s (dependents r s x) a ∙ and_from _ _ e (not_from_false _ d)

  pub rest-inside : IsSubset (minus s (dependents r s x)) s
  rest-inside = record { each = λ a e. (rest-parts a e).0 }

  pub moved-cases : (a : ℕ) → has (union x (dependents r s x)) a ≡ true → (has x a ≡ true) ⊎ (has (dependents r s x) a ≡ true)
  moved-cases a e = or_cases _ _ (sym (has-union x (dependents r s x) a) ∙ e)

  pub moved-left : (a : ℕ) → has x a ≡ true → has (union x (dependents r s x)) a ≡ true
  moved-left a e = has-union x (dependents r s x) a ∙ or_left _ _ e

  pub moved-right : (a : ℕ) → has (dependents r s x) a ≡ true → has (union x (dependents r s x)) a ≡ true
  moved-right a e = has-union x (dependents r s x) a ∙ or_right (has x a) _ e

  pub moved-inside : IsSubset x s → IsSubset (union x (dependents r s x)) s
  moved-inside i = record { each = λ a e. by a (moved-cases a e) }
    where
      by : (a : ℕ) → (has x a ≡ true) ⊎ (has (dependents r s x) a ≡ true) → has s a ≡ true
      by a (inl h) = i.each a h
      by a (inr h) = (dependents-parts a h).own

  -- X determines all of the second part
  pub moved-determined : (a : ℕ) → has (union x (dependents r s x)) a ≡ true → holds r x (Col a) ≡ true
  moved-determined a e = by (moved-cases a e)
    where
      by : (has x a ≡ true) ⊎ (has (dependents r s x) a ≡ true) → holds r x (Col a) ≡ true
      by (inl h) = holds-own r x a h
      by (inr h) = (dependents-parts a h).determined

  -- both parts are smaller numbers
  pub rest-less : s < 2 ^ width r → Violating r s x → minus s (dependents r s x) < s
  rest-less b v =
      let l = IsSubset-le rest-inside in
      let d = dependents-from v.column b (record { own = v.own; outside = v.outside; determined = v.determined }) in
      let ne : minus s (dependents r s x) ≢ s = λ e. true≢false (sym d ∙ (rest-parts v.column (ap (λ (z : ℕ). has z v.column) e ∙ v.own)).1) in
      omega arith

  pub moved-less : Violating r s x → union x (dependents r s x) < s
  moved-less v =
      let l = IsSubset-le (moved-inside v.inside) in
      let ne : union x (dependents r s x) ≢ s = λ e. true≢false (sym (holds-all r x s (λ a h. moved-determined a (ap (λ (z : ℕ). has z a) e ∙ h))) ∙ v.short) in
      omega arith

  -- each column of the table is in one of them
  pub parted : (a : ℕ) → has s a ≡ true → (has (minus s (dependents r s x)) a ≡ true) ⊎ (has (union x (dependents r s x)) a ≡ true)
  parted a e = elim (cases_Bool (has (dependents r s x) a)) as (λ _. (has (minus s (dependents r s x)) a ≡ true) ⊎ (has (union x (dependents r s x)) a ≡ true)) [
    | inl h ↦ inr (moved-right a h)
    | inr h ↦ inl (rest-from a e h)
  ]
