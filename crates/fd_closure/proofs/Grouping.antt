-- Dependencies in order: where those of a column begin, where those with few columns on the left end, and what lies between.
use Rattle.std.proofs.Common.{inl, inr, ◌≡◌, ◌⊎◌, ℕ, ◌<◌, ◌≤◌, Bool, true, false, ◌&&◌, eqb, ltb, leb, refl, sym, ap, ◌∙◌, subst, arith, List, length, get_or, Ordering, Less, Equal, Greater}
use Rattle.std.specs.List.Sorted.{IsPartitionedBy, IsPartitionPoint}
use Rattle.std.specs.Ordering.{nat_cmp, ordering_then}
use Rattle.std.proofs.lemmas.Bool.{true≢false, cases_eq, cases_lt, cases_order, and_parts, and_from, or_cases, or_left, or_right, eqb-true, eq-eqb, ltb-true, lt-ltb, leb-true, le-leb, false_from_ne_true}
use Rattle.std.proofs.lemmas.Cmp.{nat_cmp_total, tied_itself}
use Rattle.col_set.specs.ColSet.{Columns, IsSubset, subset, size, report_cmp}
use Rattle.col_set.specs.Lists.{Listed, list_any_at, list_any_which}
use Rattle.col_set.specs.AllSets.{report_cmp-same}
use Rattle.col_set.specs.Subsets.{IsSubset-refl, subset-true, true-subset}
use Rattle.col_set.proofs.Places.{Contains-listed, Listed-get_or}
use Rattle.std.specs.FinSet.{nat_cmp-IsAntisymmetric}
use Rattle.rel_base.specs.declared.dependency.Fd.{Fd}
use Rattle.rel_base.specs.Covers.{fd_cmp, IsInOrder}
use Rattle.fd_closure.specs.Closure.{has_left_inside, is_before, is_short}
use Rattle.fd_closure.proofs.Sizes.{size-le, size-in_order, nat_cmp-gt}

-- ---- two in order
fd_less-cases : (a b : Fd) → fd_cmp a b ≡ Less → (a.right < b.right) ⊎ ((a.right ≡ b.right) × (size a.left ≤ size b.left))
fd_less-cases a b e = by (cases_order a.right b.right)
  where
    then_report : Ordering → Ordering
    then_report o = ordering_then o (report_cmp a.left b.left)

    other : Greater ≡ Less → ⊥
    other g = cc

    by : (a.right ≡ b.right) ⊎ ((a.right < b.right) ⊎ (b.right < a.right)) → (a.right < b.right) ⊎ ((a.right ≡ b.right) × (size a.left ≤ size b.left))
    by (inl i) = inr (i, size-in_order a.left b.left (sym (ap (λ o. ordering_then o (report_cmp a.left b.left)) (ap (nat_cmp a.right) (sym i) ∙ tied_itself nat_cmp_total a.right)) ∙ e))
    by (inr (inl l)) = inl l
    by (inr (inr l)) = absurd (other (sym (ap (λ o. ordering_then o (report_cmp a.left b.left)) (nat_cmp-gt a.right b.right l)) ∙ e))

module _ (fds : List Fd) (order : IsInOrder fds) where
  partitioned : (p : Fd → Bool) → ((a b : Fd) → fd_cmp a b ≡ Less → p b ≡ true → p a ≡ true) → IsPartitionedBy p fds
  partitioned p f i j d l h e = elim (cases_eq i j) as (λ _. p (get_or fds i d) ≡ true) [
    | inl same ↦ ap (λ k. p (get_or fds k d)) same ∙ e
    | inr ne ↦ f (get_or fds i d) (get_or fds j d) (order.rising i j d (omega arith) h) e
  ]

  pub before-partitioned : (column : ℕ) → IsPartitionedBy (is_before column) fds
  before-partitioned column = partitioned (is_before column) (λ a b e h. by a b (fd_less-cases a b e) (ltb-true b.right column h))
    where
      by : (a b : Fd) → (a.right < b.right) ⊎ ((a.right ≡ b.right) × (size a.left ≤ size b.left)) → b.right < column → ltb a.right column ≡ true
      by a b (inl l) h = lt-ltb a.right column (omega arith)
      by a b (inr w) h = let e = w.0 in lt-ltb a.right column (omega arith)

  pub short-partitioned : (column most : ℕ) → IsPartitionedBy (is_short column most) fds
  short-partitioned column most = partitioned (is_short column most) (λ a b e h. by a b (fd_less-cases a b e) (or_cases (ltb b.right column) (eqb b.right column && leb (size b.left) most) h))
    where
      by : (a b : Fd) → (a.right < b.right) ⊎ ((a.right ≡ b.right) × (size a.left ≤ size b.left)) → (ltb b.right column ≡ true) ⊎ ((eqb b.right column && leb (size b.left) most) ≡ true) → is_short column most a ≡ true
      by a b (inl l) (inl h) = let g = ltb-true b.right column h in or_left _ _ (lt-ltb a.right column (omega arith))
      by a b (inr w) (inl h) = let e = w.0 in let g = ltb-true b.right column h in or_left _ _ (lt-ltb a.right column (omega arith))
      by a b (inl l) (inr h) = let g = eqb-true b.right column (and_parts (eqb b.right column) (leb (size b.left) most) h).0 in or_left _ _ (lt-ltb a.right column (omega arith))
      by a b (inr w) (inr h) =
          let e = w.0 in let l = w.1 in
          let v = and_parts (eqb b.right column) (leb (size b.left) most) h in
          let g = leb-true (size b.left) most v.1 in
          or_right (ltb a.right column) _ (and_from _ _ (eq-eqb a.right column (e ∙ eqb-true b.right column v.0)) (le-leb (size a.left) most (omega arith)))

-- ---- what lies between
abbrev pub is_inside : Columns → ℕ → Fd → Bool
is_inside x column fd = eqb fd.right column && subset fd.left x

pub inside-some : (fds : List Fd) (x column : ℕ) (fd : Fd) → Listed fd fds → fd.right ≡ column → subset fd.left x ≡ true → has_left_inside fds x column ≡ true
unfolding has_left_inside
inside-some fds x column fd h e s = list_any_at (is_inside x column) fd fds h (and_from _ _ (eq-eqb fd.right column e) s)

pub inside-at : (fds : List Fd) (x column k : ℕ) (fd : Fd) → fd ≡ get_or fds k fd → k < length fds → fd.right ≡ column → subset fd.left x ≡ true → has_left_inside fds x column ≡ true
inside-at fds x column k fd i l e s = inside-some fds x column fd (subst (λ (f : Fd). Listed f fds) (sym i) (Listed-get_or fds k fd l)) e s

-- nothing inside x stands between the two places: then there is nothing inside x at all
pub inside-none : (fds : List Fd) (x column start end : ℕ) →
    IsPartitionPoint (λ fd. is_before column fd ≡ true) (λ fd. is_before column fd ≡ false) fds start →
    IsPartitionPoint (λ fd. is_short column (size x) fd ≡ true) (λ fd. is_short column (size x) fd ≡ false) fds end →
    ((k : ℕ) (fd : Fd) → start ≤ k → k < end → fd ≡ get_or fds k fd → is_inside x column fd ≡ false) → has_left_inside fds x column ≡ false
unfolding has_left_inside
inside-none fds x column start end p q none = false_from_ne_true _ (λ e.
    let w = list_any_which (is_inside x column) fds e in
    let v = Contains-listed w.0 fds w.1 in
    let g = and_parts (eqb w.0.right column) (subset w.0.left x) w.2 in
    at v.0 w.0 v.1 (sym v.2) (eqb-true w.0.right column g.0) (subset-true g.1) w.2 (cases_lt v.0 start) (cases_lt v.0 end))
  where
    at : (k : ℕ) (fd : Fd) → k < length fds → fd ≡ get_or fds k fd → fd.right ≡ column → IsSubset fd.left x → is_inside x column fd ≡ true → (k < start) ⊎ (start ≤ k) → (k < end) ⊎ (end ≤ k) → ⊥
    at k fd l i e s t (inl a) b =
        let h : is_before column fd ≡ true = ap (is_before column) i ∙ p.0 k fd (omega arith) a in
        let g = ltb-true fd.right column h in absurd (omega arith)
    at k fd l i e s t (inr a) (inl b) = true≢false (sym t ∙ none k fd a b i)
    at k fd l i e s t (inr a) (inr b) =
        let h : is_short column (size x) fd ≡ false = ap (is_short column (size x)) i ∙ q.1 k fd b l in
        true≢false (sym (or_right (ltb fd.right column) _ (and_from _ _ (eq-eqb fd.right column e) (le-leb (size fd.left) (size x) (size-le fd.left x s)))) ∙ h)

-- ---- the dependency itself
pub fd_equal : (fd : Fd) (x column : ℕ) → fd_cmp fd (record { left = x; right = column }) ≡ Equal → (fd.right ≡ column) × (subset fd.left x ≡ true)
fd_equal fd x column e = by (nat_cmp fd.right column) refl e
  where
    by : (o : Ordering) → nat_cmp fd.right column ≡ o → ordering_then o (report_cmp fd.left x) ≡ Equal → (fd.right ≡ column) × (subset fd.left x ≡ true)
    by Less i g = absurd (let h : ⊥ = cc in h)
    by Equal i g = (nat_cmp-IsAntisymmetric fd.right column i, true-subset (subst (IsSubset fd.left) (report_cmp-same fd.left x g) (IsSubset-refl fd.left)))
    by Greater i g = absurd (let h : ⊥ = cc in h)
