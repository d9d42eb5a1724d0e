-- What the test of a violation means, that there is none exactly where a table is in BCNF, and that the first one is a minimal left side.
use Rattle.std.proofs.Common.{inl, inr, ◌≡◌, ◌⊎◌, ℕ, ◌<◌, ◌^◌, true, false, not, ◌&&◌, refl, sym, ap, ◌∙◌, subst, Less, Greater, Option, Some, None}
use Rattle.std.specs.Prelude.{IfSome}
use Rattle.std.specs.List.{list_any}
use Rattle.std.specs.Ordering.{ordering_reverse}
use Rattle.std.proofs.lemmas.Bool.{true≢false, and_parts, and_from, not-true, not_from_false, cases_Bool, false_from_ne_true}
use Rattle.col_set.specs.declared.target.Target.TheVariants.{Col}
use Rattle.col_set.specs.ColSet.{Columns, IsSubset, has, subset, columns, report_cmp, all_sets}
use Rattle.col_set.specs.Columns.{report_total}
use Rattle.col_set.specs.Lists.{list_any_at, list_any_which}
use Rattle.col_set.specs.AllSets.{Listed-all_sets, Rises-all_sets}
use Rattle.col_set.specs.Subsets.{IsSubset-trans, subset-true, true-subset, subset_below, has_within}
use Rattle.col_set.proofs.EachColumn.{Listed-columns, columns-listed}
use Rattle.col_set.proofs.Places.{Climbs}
use Rattle.rel_base.specs.RowState.{RowState, width}
use Rattle.rel_base.specs.Validity.{holds}
use Rattle.rel_base.specs.Minimality.{min_fd}
use Rattle.rel_base.proofs.Valid.{Holds-tested, holds-true}
use Rattle.rel_base.proofs.Minima.{MinFd-tested}
use Rattle.fd_closure.specs.Determined.{determines_all}
use Rattle.fd_closure.proofs.Determined.{all-more, Determines-tested, determines-true}
use Rattle.fd_closure.proofs.Closing.{minimal_inside, minimal-holds}
use Rattle.bcnf_split.specs.Bcnf.{IsBcnf, violates, Violates, first_violation}
use Rattle.bcnf_split.specs.Laws.{ViolationsMean, IsLeftSide, FirstIsLeftSide}
use Rattle.fd_closure.proofs.Sizes.{report-inside}
use Rattle.bcnf_split.proofs.Found.{find_passes, find_none, find_first, find_cases, same_or_less}

-- ---- the test, part by part
pub record Violating (r : RowState) (s x : Columns) : Type 0 where
  pub inside : IsSubset x s
  pub column : ℕ
  pub own : has s column ≡ true
  pub outside : has x column ≡ false
  pub determined : holds r x (Col column) ≡ true
  pub short : determines_all r x s ≡ false

module _ (r : RowState) (s : Columns) where
  pub violates-parts : (x : ℕ) → violates r s x ≡ true → Violating r s x
  unfolding violates
  violates-parts x e =
      let w = and_parts (subset x s && list_any (λ a. not (has x a) && holds r x (Col a)) (columns s)) (not (determines_all r x s)) e in
      let v = and_parts (subset x s) (list_any (λ a. not (has x a) && holds r x (Col a)) (columns s)) w.0 in
      let a = list_any_which (λ a. not (has x a) && holds r x (Col a)) (columns s) v.1 in
      let q = and_parts (not (has x a.0)) (holds r x (Col a.0)) a.2 in
      record { inside = subset-true v.0; column = a.0; own = columns-listed s a.0 a.1; outside = not-true _ q.0; determined = q.1; short = not-true _ w.1 }

  pub violates-from : (x : ℕ) → Violating r s x → violates r s x ≡ true
  unfolding violates
  violates-from x v = and_from _ _ (and_from _ _ (true-subset v.inside)
      (list_any_at (λ a. not (has x a) && holds r x (Col a)) v.column (columns s) (Listed-columns s v.column v.own) (and_from _ _ (not_from_false _ v.outside) v.determined)))
      (not_from_false _ v.short)

  pub Violates-tested : (x : ℕ) → Climbs r.live → violates r s x ≡ true → Violates r s x
  Violates-tested x up e = let v = violates-parts x e in record {
    inside = v.inside;
    column = v.column;
    own = v.own;
    outside = v.outside;
    determined = Holds-tested r x (Col v.column) v.determined;
    short = λ d. true≢false (sym (determines-true r x s up d) ∙ v.short);
  }

  pub violates-true : (x : ℕ) → Climbs r.live → Violates r s x → violates r s x ≡ true
  violates-true x up v = violates-from x (record {
    inside = v.inside;
    column = v.column;
    own = v.own;
    outside = v.outside;
    determined = holds-true r x (Col v.column) up v.determined;
    short = false_from_ne_true _ (λ e. v.short (Determines-tested r x s e));
  })

  -- ---- the first one
  pub first-violating : (x : ℕ) → first_violation r s ≡ Some x → Violating r s x
  unfolding first_violation
  first-violating x e = violates-parts x (find_passes (violates r s) (all_sets (width r)) x e).1

  pub none-violates : (x : ℕ) → first_violation r s ≡ None → x < 2 ^ width r → violates r s x ≡ false
  unfolding first_violation
  none-violates x e b = find_none (violates r s) (all_sets (width r)) x e (Listed-all_sets (width r) x b)

  pub first-before : (x y : ℕ) → first_violation r s ≡ Some x → y < 2 ^ width r → violates r s y ≡ true → (x ≡ y) ⊎ (report_cmp x y ≡ Less)
  unfolding first_violation
  first-before x y e b v = find_first report_cmp (violates r s) (all_sets (width r)) x y (Rises-all_sets (width r)) e (Listed-all_sets (width r) y b) v

  pub first-cases : (first_violation r s ≡ None) ⊎ ((x : ℕ) × (first_violation r s ≡ Some x))
  unfolding first_violation
  first-cases = find_cases (violates r s) (all_sets (width r))

  not_both : (x y : ℕ) → report_cmp x y ≡ Less → report_cmp y x ≡ Less → ⊥
  not_both x y e f = let g : report_cmp x y ≡ Greater = report_total.antisymm x y ∙ ap ordering_reverse f in cc

  -- the left side of a minimal dependency inside x violates it too
  pub smaller-violating : (x y : ℕ) (v : Violating r s x) → y < 2 ^ width r → IsSubset y x → min_fd r y v.column ≡ true → Violating r s y
  smaller-violating x y v b i m = let h = minimal-holds r y v.column b m in record {
    inside = IsSubset-trans i v.inside;
    column = v.column;
    own = v.own;
    outside = h.0;
    determined = h.1;
    short = false_from_ne_true _ (λ e. true≢false (sym (all-more r y x s i e) ∙ v.short));
  }

  -- where the first one would not be minimal, a smaller one would stand before it
  pub first-minimal : (x : ℕ) → s < 2 ^ width r → first_violation r s ≡ Some x → (a : ℕ) × (has s a ≡ true) × (min_fd r x a ≡ true)
  first-minimal x b e =
      let v = first-violating x e in
      let c = subset_below (width r) v.inside b in
      let m = minimal_inside r x v.column c v.outside v.determined in
      let d = subset_below (width r) m.1 c in
      by v m.0 m.1 m.2 c (first-before x m.0 e d (violates-from m.0 (smaller-violating x m.0 v d m.1 m.2))) (same_or_less (width r) m.0 x c m.1)
    where
      by : (v : Violating r s x) (y : ℕ) → IsSubset y x → min_fd r y v.column ≡ true → x < 2 ^ width r → (x ≡ y) ⊎ (report_cmp x y ≡ Less) → (y ≡ x) ⊎ ((c : ℕ) × (has y c ≡ false) × (has x c ≡ true)) → (a : ℕ) × (has s a ≡ true) × (min_fd r x a ≡ true)
      by v y i m c o (inl g) = (v.column, v.own, subst (λ (z : ℕ). min_fd r z v.column ≡ true) g m)
      by v y i m c (inl g) (inr w) = (v.column, v.own, subst (λ (z : ℕ). min_fd r z v.column ≡ true) (sym g) m)
      by v y i m c (inr g) (inr w) = absurd (not_both x y g (report-inside (width r) y x w.0 c i w.1 w.2))

  pub IsLeftSide-first : Climbs r.live → s < 2 ^ width r → (x : ℕ) → first_violation r s ≡ Some x → IsLeftSide r s x
  IsLeftSide-first up b x e =
      let w = first-minimal x b e in
      let v = first-violating x e in
      record { column = w.0; own = w.1; minimal = MinFd-tested r x w.0 up (has_within s (width r) w.0 b w.1) (subset_below (width r) v.inside b) w.2 }

  -- ---- normal form
  pub IsBcnf-none : s < 2 ^ width r → Climbs r.live → first_violation r s ≡ None → IsBcnf r s
  IsBcnf-none b up e = record {
    each = λ x a i own out h. Determines-tested r x s (by x a i own out (holds-true r x (Col a) up h) (cases_Bool (determines_all r x s)));
  }
    where
      by : (x a : ℕ) → IsSubset x s → has s a ≡ true → has x a ≡ false → holds r x (Col a) ≡ true → (determines_all r x s ≡ true) ⊎ (determines_all r x s ≡ false) → determines_all r x s ≡ true
      by x a i own out h (inl d) = d
      by x a i own out h (inr d) = absurd (true≢false (sym (violates-from x (record { inside = i; column = a; own = own; outside = out; determined = h; short = d })) ∙ none-violates x e (subset_below (width r) i b)))

  pub none-IsBcnf : Climbs r.live → IsBcnf r s → first_violation r s ≡ None
  none-IsBcnf up h = elim first-cases as (λ _. first_violation r s ≡ None) [
    | inl e ↦ e
    | inr w ↦ let v = first-violating w.0 w.1 in
        absurd (true≢false (sym (determines-true r w.0 s up (h.each w.0 v.column v.inside v.own v.outside (Holds-tested r w.0 (Col v.column) v.determined))) ∙ v.short))
  ]

  pub FirstIsLeftSide-first : Climbs r.live → s < 2 ^ width r → FirstIsLeftSide r s
  FirstIsLeftSide-first up b = by (first_violation r s) refl
    where
      by : (o : Option ℕ) → first_violation r s ≡ o → IfSome o (IsLeftSide r s)
      by None e = tt
      by (Some x) e = IsLeftSide-first up b x e

  pub ViolationsMean-tested : Climbs r.live → s < 2 ^ width r → ViolationsMean r s
  ViolationsMean-tested up b = record {
    test = λ x. (Violates-tested x up, violates-true x up);
    none = (IsBcnf-none b up, none-IsBcnf up);
  }
