-- Tables of dependencies whose left sides can spare no column are in third normal form (Bernstein, 1976).
use Rattle.std.proofs.Common.{inl, inr, ◌≡◌, ◌⊎◌, ℕ, true, false, eqb, sym, ap, ◌∙◌, subst, List, [], ◌∷◌, ◌++◌}
use Rattle.std.specs.List.{list_any}
use Rattle.std.proofs.lemmas.Bool.{true≢false, cases_Bool, eqb-true}
use Rattle.col_set.specs.ColSet.{Columns, IsSubset, all, has, subset, all_sets}
use Rattle.col_set.specs.Lists.{Listed, Listed-append_left, Listed-append_right, Listed-append_cases, Listed-filter_parts, list_any_which}
use Rattle.col_set.specs.Subsets.{IsSubset-refl, IsSubset-trans, subset-true, true-subset}
use Rattle.col_set.specs.Minimal.{IsMinimal}
use Rattle.col_set.proofs.Places.{Contains-listed, Listed-contained}
use Rattle.rel_base.specs.declared.dependency.Fd.{Fd}
use Rattle.rel_base.specs.declared.dependency.Table.{Table}
use Rattle.fd_closure.specs.Under.{IsClosed}
use Rattle.fd_closure.proofs.Shrinking.{shrunk-minimal}
use Rattle.synth_3nf.specs.Reached.{reached}
use Rattle.synth_3nf.specs.Canonical.{canonical}
use Rattle.synth_3nf.specs.Tables.{left_sides, with_rights, reaches_all, whole_key, synthesis}
use Rattle.synth_3nf.proofs.Below.{all-below}
use Rattle.synth_3nf.proofs.Reaching.{reached-closure}
use Rattle.synth_3nf.proofs.Trials.{canonical-listed, canonical-reached}
use Rattle.synth_laws.specs.ThirdNormal.{IsReachingKey, IsPrimeFor, IsThirdNormalFor, IsReduced, TablesAreThirdNormalFor}
use Rattle.synth_laws.proofs.Reach.{reached-own, reached-by, reached-from, reached-more}
use Rattle.synth_laws.proofs.Needed.{canonical-needed}
use Rattle.synth_laws.proofs.Kept.{with_rights-own, with_rights-right, IsRight, with_rights-cases, with_rights-reached, whole_key-reaches, key_table, IsLeftTable, synthesis-cases}

-- ---- where a listed dependency stands
record Parted (fds : List Fd) (fd : Fd) : Type 0 where
  before : List Fd
  after : List Fd
  is : fds ≡ before ++ fd ∷ after

parted-at : (fds : List Fd) (fd : Fd) → Listed fd fds → Parted fds fd
parted-at [] fd h = absurd h
parted-at (one ∷ fds) fd (inl e) = record { before = []; after = fds; is = ap (λ (f : Fd). f ∷ fds) (sym e) }
parted-at (one ∷ fds) fd (inr h) = let w = parted-at fds fd h in record { before = one ∷ w.before; after = w.after; is = ap (λ (l : List Fd). one ∷ l) w.is }

other-or_itself : (before : List Fd) (fd : Fd) (after : List Fd) (f : Fd) → Listed f (before ++ fd ∷ after) → (f ≡ fd) ⊎ Listed f (before ++ after)
other-or_itself before fd after f h = by (Listed-append_cases f before (fd ∷ after) h)
  where
    by : Listed f before ⊎ Listed f (fd ∷ after) → (f ≡ fd) ⊎ Listed f (before ++ after)
    by (inl g) = inr (Listed-append_left f before after g)
    by (inr (inl e)) = inl e
    by (inr (inr g)) = inr (Listed-append_right f before after g)

-- ---- the key table
module _ (n : ℕ) (fds : List Fd) where
  whole_key-minimal : IsMinimal (reaches_all n fds) (whole_key n fds)
  unfolding whole_key
  whole_key-minimal = shrunk-minimal (reaches_all n fds) (λ x y s e. true-subset (IsSubset-trans (subset-true e) (reached-more fds x y s))) n (all n) (all-below n) (true-subset (reached-own fds (all n)))

  whole_key-key : IsReachingKey fds (whole_key n fds) (whole_key n fds)
  whole_key-key = record {
    inside = IsSubset-refl (whole_key n fds);
    reaches = reached-own fds (whole_key n fds);
    smallest = λ y i s. whole_key-minimal.smallest y i (true-subset (IsSubset-trans (subset-true (whole_key-reaches n fds)) (reached-from fds (whole_key n fds) y s)));
  }

  key_table-normal : IsThirdNormalFor fds (whole_key n fds)
  key_table-normal = record { each = λ x a i own lacks e. inr (record { key = whole_key n fds; minimal = whole_key-key; own = own }) }

-- ---- the table of a left side
module _ (fds : List Fd) (reduced : IsReduced fds) (first : Fd) (listed : Listed first (canonical fds)) where
  kept : List Fd
  kept = canonical fds

  columns : Columns
  columns = with_rights (canonical fds) first.left

  left-key : IsReachingKey fds columns first.left
  unfolding columns
  left-key = record {
    inside = with_rights-own (canonical fds) first.left;
    reaches = subst (IsSubset columns) (canonical-reached fds first.left) (with_rights-reached (canonical fds) first.left);
    smallest = λ y i s. reduced.each first (Contains-listed first fds (canonical-listed fds first listed)) y i (s.each first.right (with_rights-right (canonical fds) first listed));
  }

  -- a right column that a set determines which does not determine the table would follow from the other dependencies
  module _ (x : Columns) (a : ℕ) (inside : IsSubset x columns) (lacks : has x a ≡ false) (e : has (reached fds x) a ≡ true) (short : subset columns (reached fds x) ≡ false)
      (w : IsRight (canonical fds) first.left a) (p : Parted (canonical fds) w.fd) where
    others : List Fd
    others = p.before ++ p.after

    is-other : (f : Fd) → Listed f (canonical fds) → (f ≡ w.fd) ⊎ Listed f others
    unfolding others
    is-other f h = other-or_itself p.before w.fd p.after f (subst (λ (l : List Fd). Listed f l) p.is h)

    from_left : (k : ℕ) → has x k ≡ true → (has first.left k ≡ true) ⊎ IsRight (canonical fds) first.left k → has (reached others first.left) k ≡ true
    from_left k h (inl o) = (reached-own others first.left).each k o
    from_left k h (inr g) = by (is-other g.fd g.listed)
      where
        by : (g.fd ≡ w.fd) ⊎ Listed g.fd others → has (reached others first.left) k ≡ true
        by (inl i) = absurd (true≢false (sym (ap (has x) (sym w.right ∙ ap (λ (f : Fd). f.right) (sym i) ∙ g.right) ∙ h) ∙ lacks))
        by (inr l) = subst (λ (j : ℕ). has (reached others first.left) j ≡ true) g.right
            (reached-by others first.left g.fd l (subst (λ (y : Columns). IsSubset y (reached others first.left)) (sym g.left) (reached-own others first.left)))

    from_others : has (reached others x) a ≡ true → ⊥
    unfolding others columns
    from_others h =
        let s : IsSubset (reached others x) (reached others first.left) = reached-from others x first.left (record { each = λ k g. from_left k g (with_rights-cases (canonical fds) first.left k (inside.each k g)) }) in
        true≢false (sym (subst (λ (y : Columns). has (reached others y) w.fd.right ≡ true) (sym w.left) (subst (λ (j : ℕ). has (reached others first.left) j ≡ true) (sym w.right) (s.each a h)))
        ∙ canonical-needed fds p.before w.fd p.after p.is)

    closed : subset first.left (reached others x) ≡ false → IsClosed (canonical fds) (reached others x)
    closed out = record { each = λ f h s. by f s (is-other f (Listed-contained f (canonical fds) h)) }
      where
        by : (f : Fd) → IsSubset f.left (reached others x) → (f ≡ w.fd) ⊎ Listed f others → has (reached others x) f.right ≡ true
        by f s (inl i) = absurd (true≢false (sym (true-subset (subst (λ (y : Columns). IsSubset y (reached others x)) (ap (λ (g : Fd). g.left) i ∙ w.left) s)) ∙ out))
        by f s (inr l) = reached-by others x f l s

    apart : has (reached others x) a ≡ false → subset first.left (reached others x) ≡ false → ⊥
    apart f out =
        let s = (reached-closure (canonical fds) x).smallest (reached others x) (reached-own others x) (closed out) in
        true≢false (sym (s.each a (ap (λ (y : Columns). has y a) (canonical-reached fds x) ∙ e)) ∙ f)

    inside_others : IsSubset (reached others x) (reached fds x)
    unfolding others
    inside_others = subst (IsSubset (reached others x)) (canonical-reached fds x)
        ((reached-closure others x).smallest (reached (canonical fds) x) (reached-own (canonical fds) x) (record {
          each = λ f h s. reached-by (canonical fds) x f (there f (Listed-append_cases f p.before p.after (Listed-contained f others h))) s;
        }))
      where
        there : (f : Fd) → Listed f p.before ⊎ Listed f p.after → Listed f (canonical fds)
        there f (inl g) = subst (λ (l : List Fd). Listed f l) (sym p.is) (Listed-append_left f p.before (w.fd ∷ p.after) g)
        there f (inr g) = subst (λ (l : List Fd). Listed f l) (sym p.is) (Listed-append_right f p.before (w.fd ∷ p.after) (inr g))

    through : subset first.left (reached others x) ≡ true → ⊥
    through i =
        let s = reached-from fds first.left x (IsSubset-trans (subset-true i) inside_others) in
        true≢false (sym (true-subset (IsSubset-trans left-key.reaches s)) ∙ short)

    impossible : ⊥
    impossible = elim (cases_Bool (has (reached others x) a)) as (λ _. ⊥) [
      | inl h ↦ from_others h
      | inr f ↦ elim (cases_Bool (subset first.left (reached others x))) as (λ _. ⊥) [
        | inl i ↦ through i
        | inr out ↦ apart f out
      ]
    ]

  left-normal : IsThirdNormalFor fds columns
  unfolding columns
  left-normal = record { each = λ x a i own lacks e. by x a i lacks e (with_rights-cases (canonical fds) first.left a own) (cases_Bool (subset columns (reached fds x))) }
    where
      by : (x : Columns) (a : ℕ) → IsSubset x columns → has x a ≡ false → has (reached fds x) a ≡ true → (has first.left a ≡ true) ⊎ IsRight (canonical fds) first.left a
          → (subset columns (reached fds x) ≡ true) ⊎ (subset columns (reached fds x) ≡ false) → IsSubset columns (reached fds x) ⊎ IsPrimeFor fds columns a
      by x a i lacks e own (inl s) = inl (subset-true s)
      by x a i lacks e (inl own) (inr s) = inr (record { key = first.left; minimal = left-key; own = own })
      by x a i lacks e (inr w) (inr s) = absurd (impossible x a i lacks e s w (parted-at (canonical fds) w.fd w.listed))

module _ (n : ℕ) (fds : List Fd) (reduced : IsReduced fds) where
  table-normal : (t : Table) → IsLeftTable n fds t ⊎ (t ≡ key_table n fds) → IsThirdNormalFor fds t.columns
  unfolding left_sides columns
  table-normal t (inl w) =
      let v = Listed-filter_parts (λ x. list_any (λ (fd : Fd). eqb fd.left x) (canonical fds)) w.left (all_sets n) w.listed in
      let f = list_any_which (λ (fd : Fd). eqb fd.left w.left) (canonical fds) v.1 in
      subst (λ (u : Table). IsThirdNormalFor fds u.columns) (sym w.is) (subst (λ (x : Columns). IsThirdNormalFor fds (with_rights (canonical fds) x)) (eqb-true f.0.left w.left f.2) (left-normal fds reduced f.0 f.1))
  table-normal t (inr e) = subst (λ (u : Table). IsThirdNormalFor fds u.columns) (sym e) (key_table-normal n fds)

  pub TablesAreThirdNormalFor-synthesis : TablesAreThirdNormalFor n fds
  TablesAreThirdNormalFor-synthesis t h = table-normal t (synthesis-cases n fds t (Listed-contained t (synthesis n fds) h))
