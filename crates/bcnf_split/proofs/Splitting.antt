-- The split of a set of columns: an induction over it, that it is what its definition says, and its tables.
use Rattle.std.proofs.Common.{inl, inr, ◌≡◌, ℕ, zero, suc, ◌<◌, ◌≤◌, ◌^◌, true, refl, sym, ap₂, subst, arith, List, [], ◌∷◌, ◌++◌, Option, Some, None}
use Rattle.std.specs.Prelude.{MatchOption}
use Rattle.col_set.specs.ColSet.{Columns, IsSubset, has, union, minus}
use Rattle.col_set.specs.Lists.{Listed, Listed-append_left, Listed-append_right, Listed-append_cases}
use Rattle.col_set.specs.Subsets.{IsSubset-refl, IsSubset-trans, subset_below}
use Rattle.col_set.proofs.Places.{Climbs, Contains-listed}
use Rattle.rel_base.specs.RowState.{RowState, width}
use Rattle.rel_base.proofs.States.{All-from}
use Rattle.bcnf_split.specs.Bcnf.{IsBcnf, first_violation}
use Rattle.bcnf_split.specs.Split.{dependents, splits_within, splits}
use Rattle.bcnf_split.specs.Laws.{SplitsAsSaid, SplitMeans}
use Rattle.bcnf_split.proofs.Violating.{first-violating, IsBcnf-none}
use Rattle.bcnf_split.proofs.Parting.{rest-inside, moved-inside, rest-less, moved-less, parted}

module _ (r : RowState) where
  -- ---- an induction over the split: what holds of a table without a violation, and of a set where it holds of its two parts
  module _ (P : Columns → List Columns → Type 0)
      (whole : (s : Columns) → s < 2 ^ width r → first_violation r s ≡ None → P s (s ∷ []))
      (joined : (s x : Columns) (first rest : List Columns) → s < 2 ^ width r → first_violation r s ≡ Some x → P (minus s (dependents r s x)) first → P (union x (dependents r s x)) rest → P s (first ++ rest)) where
    within_by : (n s : ℕ) → s ≤ n → s < 2 ^ width r → P s (splits_within n r s)
    unfolding splits_within
    within_by zero s l b = by (first_violation r s) refl
      where
        by : (o : Option ℕ) → first_violation r s ≡ o → P s (s ∷ [])
        by None e = whole s b e
        by (Some x) e = let g = moved-less r s x (first-violating r s x e) in absurd (omega arith)
    within_by (suc n) s l b = by (first_violation r s) refl (λ z g c. within_by n z g c)
      where
        by : (o : Option ℕ) → first_violation r s ≡ o → ((z : ℕ) → z ≤ n → z < 2 ^ width r → P z (splits_within n r z)) → P s (elim o [ None ↦ s ∷ [] | Some x ↦ splits_within n r (minus s (dependents r s x)) ++ splits_within n r (union x (dependents r s x)) ])
        by None e deeper = whole s b e
        by (Some x) e deeper =
            let v = first-violating r s x e in
            let f = rest-less r s x b v in
            let g = moved-less r s x v in
            joined s x _ _ b e (deeper (minus s (dependents r s x)) (omega arith) (subset_below (width r) (rest-inside r s x) b)) (deeper (union x (dependents r s x)) (omega arith) (subset_below (width r) (moved-inside r s x v.inside) b))

    pub splits_by : (s : Columns) → s < 2 ^ width r → P s (splits r s)
    splits_by s b = within_by s s (omega arith) b

  -- ---- as the definition says
  pub more_steps : (m n s : ℕ) → s ≤ m → s ≤ n → s < 2 ^ width r → splits_within m r s ≡ splits_within n r s
  unfolding splits_within
  more_steps zero zero s l k b = refl
  more_steps zero (suc n) s l k b = by (first_violation r s) refl
    where
      by : (o : Option ℕ) → first_violation r s ≡ o → ◌≡◌ {A = List ℕ} (s ∷ []) (elim o [ None ↦ s ∷ [] | Some x ↦ splits_within n r (minus s (dependents r s x)) ++ splits_within n r (union x (dependents r s x)) ])
      by None e = refl
      by (Some x) e = let g = moved-less r s x (first-violating r s x e) in absurd (omega arith)
  more_steps (suc m) zero s l k b = by (first_violation r s) refl
    where
      by : (o : Option ℕ) → first_violation r s ≡ o → ◌≡◌ {A = List ℕ} (elim o [ None ↦ s ∷ [] | Some x ↦ splits_within m r (minus s (dependents r s x)) ++ splits_within m r (union x (dependents r s x)) ]) (s ∷ [])
      by None e = refl
      by (Some x) e = let g = moved-less r s x (first-violating r s x e) in absurd (omega arith)
  more_steps (suc m) (suc n) s l k b = by (first_violation r s) refl (λ z g h c. more_steps m n z g h c)
    where
      by : (o : Option ℕ) → first_violation r s ≡ o → ((z : ℕ) → z ≤ m → z ≤ n → z < 2 ^ width r → splits_within m r z ≡ splits_within n r z) → ◌≡◌ {A = List ℕ} (elim o [ None ↦ s ∷ [] | Some x ↦ splits_within m r (minus s (dependents r s x)) ++ splits_within m r (union x (dependents r s x)) ]) (elim o [ None ↦ s ∷ [] | Some x ↦ splits_within n r (minus s (dependents r s x)) ++ splits_within n r (union x (dependents r s x)) ])
      by None e deeper = refl
      by (Some x) e deeper =
          let v = first-violating r s x e in
          let f = rest-less r s x b v in
          let g = moved-less r s x v in
          ap₂ (λ (xs ys : List ℕ). xs ++ ys)
          (deeper (minus s (dependents r s x)) (omega arith) (omega arith) (subset_below (width r) (rest-inside r s x) b))
          (deeper (union x (dependents r s x)) (omega arith) (omega arith) (subset_below (width r) (moved-inside r s x v.inside) b))

  whole_within : (s n : ℕ) → first_violation r s ≡ None → splits_within n r s ≡ s ∷ []
  unfolding splits_within
  whole_within s zero e = refl
  whole_within s (suc n) e = subst (λ (o : Option ℕ). elim o [ None ↦ s ∷ [] | Some x ↦ splits_within n r (minus s (dependents r s x)) ++ splits_within n r (union x (dependents r s x)) ] ≡ s ∷ []) (sym e) refl

  pub splits-whole : (s : ℕ) → first_violation r s ≡ None → splits r s ≡ s ∷ []
  splits-whole s e = whole_within s s e

  parted_within : (s x n : ℕ) → s ≤ n → s < 2 ^ width r → first_violation r s ≡ Some x → splits_within n r s ≡ splits r (minus s (dependents r s x)) ++ splits r (union x (dependents r s x))
  unfolding splits_within
  parted_within s x zero l b e = let g = moved-less r s x (first-violating r s x e) in absurd (omega arith)
  parted_within s x (suc n) l b e =
      let f = rest-less r s x b (first-violating r s x e) in
      let g = moved-less r s x (first-violating r s x e) in
      subst (λ (o : Option ℕ). elim o [ None ↦ s ∷ [] | Some x ↦ splits_within n r (minus s (dependents r s x)) ++ splits_within n r (union x (dependents r s x)) ] ≡ splits r (minus s (dependents r s x)) ++ splits r (union x (dependents r s x))) (sym e)
      (ap₂ (λ (xs ys : List ℕ). xs ++ ys)
      (more_steps n (minus s (dependents r s x)) (minus s (dependents r s x)) (omega arith) (omega arith) (subset_below (width r) (rest-inside r s x) b))
      (more_steps n (union x (dependents r s x)) (union x (dependents r s x)) (omega arith) (omega arith) (subset_below (width r) (moved-inside r s x (first-violating r s x e).inside) b)))

  pub splits-parted : (s x : ℕ) → s < 2 ^ width r → first_violation r s ≡ Some x → splits r s ≡ splits r (minus s (dependents r s x)) ++ splits r (union x (dependents r s x))
  splits-parted s x b e = parted_within s x s (omega arith) b e

  pub SplitsAsSaid-splits : (s : ℕ) → s < 2 ^ width r → SplitsAsSaid r s
  SplitsAsSaid-splits s b = by (first_violation r s) refl
    where
      by : (o : Option ℕ) → first_violation r s ≡ o → MatchOption o (splits r s ≡ s ∷ []) (λ x. splits r s ≡ splits r (minus s (dependents r s x)) ++ splits r (union x (dependents r s x)))
      by None e = splits-whole s e
      by (Some x) e = splits-parted s x b e

  -- ---- its tables
  single : (s t : ℕ) → Listed t (s ∷ []) → t ≡ s
  single s t (inl e) = e
  single s t (inr h) = absurd h

  pub splits-normal : (s t : ℕ) → Climbs r.live → s < 2 ^ width r → Listed t (splits r s) → IsBcnf r t
  splits-normal s t up b = splits_by (λ s ts. Listed t ts → IsBcnf r t)
      (λ s b e h. subst (IsBcnf r) (sym (single s t h)) (IsBcnf-none r s b up e))
      (λ s x first rest b e f g h. elim (Listed-append_cases t first rest h) as (λ _. IsBcnf r t) [ inl i ↦ f i | inr i ↦ g i ]) s b

  pub splits-inside : (s t : ℕ) → s < 2 ^ width r → Listed t (splits r s) → IsSubset t s
  splits-inside s t b = splits_by (λ s ts. Listed t ts → IsSubset t s)
      (λ s b e h. subst (λ (z : ℕ). IsSubset z s) (sym (single s t h)) (IsSubset-refl s))
      (λ s x first rest b e f g h. elim (Listed-append_cases t first rest h) as (λ _. IsSubset t s) [
        | inl i ↦ IsSubset-trans (f i) (rest-inside r s x)
        | inr i ↦ IsSubset-trans (g i) (moved-inside r s x (first-violating r s x e).inside)
      ]) s b

  pub splits-every : (s a : ℕ) → s < 2 ^ width r → has s a ≡ true → (t : ℕ) × Listed t (splits r s) × (has t a ≡ true)
  splits-every s a b = splits_by (λ s ts. has s a ≡ true → (t : ℕ) × Listed t ts × (has t a ≡ true))
      (λ s b e h. (s, inl refl, h))
      (λ s x first rest b e f g h. elim (parted r s x a h) as (λ _. (t : ℕ) × Listed t (first ++ rest) × (has t a ≡ true)) [
        | inl i ↦ let w = f i in (w.0, Listed-append_left w.0 first rest w.1, w.2)
        | inr i ↦ let w = g i in (w.0, Listed-append_right w.0 first rest w.1, w.2)
      ]) s b

  pub SplitMeans-splits : (s : ℕ) → Climbs r.live → s < 2 ^ width r → SplitMeans r s
  SplitMeans-splits s up b = record {
    normal = All-from (IsBcnf r) (splits r s) (λ t h. splits-normal s t up b h);
    inside = All-from (λ t. IsSubset t s) (splits r s) (λ t h. splits-inside s t b h);
    every = λ a e. let w = splits-every s a b e in (w.0, Contains-listed w.0 (splits r s) w.1, w.2);
  }
