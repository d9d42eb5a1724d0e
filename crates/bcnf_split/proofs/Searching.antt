-- The walk over left sides: what is found so far, and that the first one is found.
use Rattle.std.proofs.Common.{inl, inr, ◌≡◌, ◌⊎◌, ℕ, ◌+◌, ◌<◌, ◌≤◌, ◌^◌, Bool, true, false, ◌&&◌, refl, sym, ap, ◌∙◌, subst, arith, List, length, get_or, Ordering, Less, Greater, Equal, is_lt, Option, Some, None}
use Rattle.std.specs.Prelude.{IfSome}
use Rattle.std.specs.Option.{option_map}
use Rattle.std.specs.Ordering.{ordering_reverse}
use Rattle.std.proofs.lemmas.Bool.{true≢false, false≢true, and_from, cases_lt}
use Rattle.std.proofs.lemmas.List.{get_or_default}
use Rattle.col_set.specs.ColSet.{Columns, has, subset, report_cmp}
use Rattle.col_set.specs.Columns.{report_total}
use Rattle.col_set.specs.AllSets.{report_cmp-same}
use Rattle.col_set.specs.Lists.{Listed}
use Rattle.col_set.specs.Subsets.{has_within, subset_below, true-subset}
use Rattle.col_set.proofs.Places.{Contains-listed}
use Rattle.rel_base.specs.declared.dependency.Fd.{Fd}
use Rattle.rel_base.specs.RowState.{RowState, width}
use Rattle.rel_base.specs.Covers.{CoverLists}
use Rattle.fd_closure.proofs.Closing.{minimal-covers}
use Rattle.bcnf_split.specs.declared.parted.Parting.{Parting}
use Rattle.bcnf_split.specs.Bcnf.{IsTableOf, violates, first_violation}
use Rattle.bcnf_split.specs.Search.{IsParting, IsViolation, IsFoundBy}
use Rattle.bcnf_split.proofs.Violating.{violates-parts, violates-from, first-violating, first-minimal, first-cases, first-before, none-violates}

-- ---- before and behind what was found
pub not_before : (x y : ℕ) → (report_cmp x y ≡ Less → ⊥) → (y ≡ x) ⊎ (report_cmp y x ≡ Less)
not_before x y h = by (report_cmp x y) refl
  where
    by : (o : Ordering) → report_cmp x y ≡ o → (y ≡ x) ⊎ (report_cmp y x ≡ Less)
    by Less e = absurd (h e)
    by Equal e = inl (sym (report_cmp-same x y e))
    by Greater e = inr (report_total.antisymm y x ∙ ap ordering_reverse e)

pub not_both : (x y : ℕ) → report_cmp x y ≡ Less → report_cmp y x ≡ Less → ⊥
not_both x y e f = let g : report_cmp x y ≡ Greater = report_total.antisymm x y ∙ ap ordering_reverse f in cc

pub less_trans : (x y z : ℕ) → report_cmp x y ≡ Less → (y ≡ z) ⊎ (report_cmp y z ≡ Less) → report_cmp x z ≡ Less
less_trans x y z e (inl i) = ap (report_cmp x) (sym i) ∙ e
less_trans x y z e (inr f) = report_total.trans x y z e f

module _ (lists : CoverLists) (s : Columns) where
  -- ---- the loop
  pub record Walked (fds : List Fd) (n : ℕ) (first : Option Parting) : Type 0 where
    pub smaller : IfSome first (IsParting s)
    pub told : (r : RowState) → IsTableOf lists r s → IfSome first (IsViolation r s)
    pub before : (r : RowState) → IsTableOf lists r s → (k : ℕ) (fd : Fd) → k < n → fd ≡ get_or fds k fd → has s fd.right ≡ true → violates r s fd.left ≡ true → IsFoundBy fd.left first

  pub walked-none : (fds : List Fd) (first : Option Parting) → first ≡ None → Walked fds 0 first
  walked-none fds first e = subst (Walked fds 0) (sym e) (record { smaller = tt; told = λ r t. tt; before = λ r t k fd l i h v. absurd (omega arith) })

  -- one that takes no place
  pub walked-more : (fds : List Fd) (n : ℕ) (first : Option Parting) (fd : Fd) → Walked fds n first → n < length fds → fd ≡ get_or fds n fd →
      ((r : RowState) → IsTableOf lists r s → has s fd.right ≡ true → violates r s fd.left ≡ true → IsFoundBy fd.left first) → Walked fds (n + 1) first
  walked-more fds n first fd w l is h = record {
    smaller = w.smaller;
    told = w.told;
    before = λ r t k other m i own v. by r t k other m i own v (cases_lt k n);
  }
    where
      by : (r : RowState) → IsTableOf lists r s → (k : ℕ) (other : Fd) → k < n + 1 → other ≡ get_or fds k other → has s other.right ≡ true → violates r s other.left ≡ true → (k < n) ⊎ (n ≤ k) → IsFoundBy other.left first
      by r t k other m i own v (inl g) = w.before r t k other g i own v
      by r t k other m i own v (inr g) =
          let e : k ≡ n = omega arith in
          let same : other ≡ fd = i ∙ ap (λ (j : ℕ). get_or fds j other) e ∙ get_or_default fds n other fd l ∙ sym is in
          subst (λ (f : Fd). IsFoundBy f.left first) (sym same) (h r t (ap (λ (f : Fd). has s f.right) (sym same) ∙ own) (ap (λ (f : Fd). violates r s f.left) (sym same) ∙ v))

  -- one that stands before what was found takes its place
  pub walked-found : (fds : List Fd) (n : ℕ) (first : Option Parting) (fd : Fd) (p : Parting) → Walked fds n first → n < length fds → fd ≡ get_or fds n fd → p.left ≡ fd.left → IsParting s p →
      ((r : RowState) → IsTableOf lists r s → IsViolation r s p) → ((x : ℕ) → IsFoundBy x first → report_cmp fd.left x ≡ Less) → Walked fds (n + 1) (Some p)
  walked-found fds n first fd p w l is e q v b = walked-more fds n (Some p) fd (record {
    smaller = q;
    told = v;
    before = λ r t k other m i own h. inr (ap (λ (z : ℕ). report_cmp z other.left) e ∙ b other.left (w.before r t k other m i own h));
  }) l is (λ r t own h. inl e)

  -- ---- the end
  pub walked-all : (fds : List Fd) (n : ℕ) (first : Option Parting) → Walked fds n first → fds ≡ lists.fds → length fds ≤ n → (r : RowState) → IsTableOf lists r s → (x : ℕ) → first_violation r s ≡ Some x → IsFoundBy x first
  walked-all fds n first w same l r t x e =
      let m = first-minimal r s x t.below e in
      let v = first-violating r s x e in
      let b = subset_below (width r) v.inside t.below in
      let h : Listed (record { left = x; right = m.0 }) fds = subst (λ (f : List Fd). Listed (record { left = x; right = m.0 }) f) (ap (λ (c : CoverLists). c.fds) (sym t.own) ∙ sym same) (minimal-covers r x m.0 b (has_within s (width r) m.0 t.below m.1) m.2) in
      let c = Contains-listed (record { left = x; right = m.0 }) fds h in
      let k = c.1 in
      w.before r t c.0 (record { left = x; right = m.0 }) (omega arith) (sym c.2) m.1 (violates-from r s x v)

-- ---- a dependency that is passed over
module _ (lists : CoverLists) (r : RowState) (s : Columns) (table : IsTableOf lists r s) (fd : Fd) where
  pub inside-answer : (answer : Bool) → (fd.right < 128 → answer ≡ (has s fd.right && subset fd.left s)) → has s fd.right ≡ true → violates r s fd.left ≡ true → answer ≡ true
  inside-answer answer h own v =
      let l = has_within s (width r) fd.right table.below own in
      let narrow = table.state.narrow in
      h (omega arith) ∙ and_from _ _ own (true-subset (violates-parts r s fd.left v).inside)

-- ---- what was found is the first
pub found_first : (r : RowState) (s : Columns) (o : Option Parting) → s < 2 ^ width r → IfSome o (IsViolation r s) → ((x : ℕ) → first_violation r s ≡ Some x → IsFoundBy x o) → option_map (λ (p : Parting). p.left) o ≡ first_violation r s
found_first r s None b v f = elim (first-cases r s) as (λ _. None ≡ first_violation r s) [ inl e ↦ sym e | inr w ↦ absurd (f w.0 w.1) ]
found_first r s (Some p) b v f = elim (first-cases r s) as (λ _. Some p.left ≡ first_violation r s) [
  | inl e ↦ absurd (true≢false (sym v.violating ∙ none-violates r s p.left e low))
  | inr w ↦ by w.0 w.1 (f w.0 w.1) (first-before r s w.0 p.left w.1 low v.violating)
]
  where
    low : p.left < 2 ^ width r
    low = subset_below (width r) (violates-parts r s p.left v.violating).inside b

    by : (x : ℕ) → first_violation r s ≡ Some x → (p.left ≡ x) ⊎ (report_cmp p.left x ≡ Less) → (x ≡ p.left) ⊎ (report_cmp x p.left ≡ Less) → Some p.left ≡ first_violation r s
    by x e (inl i) g = ap Some i ∙ sym e
    by x e (inr i) (inl g) = ap Some (sym g) ∙ sym e
    by x e (inr i) (inr g) = absurd (not_both p.left x i g)

-- ---- the test `<`
pub is_lt-true : (o : Ordering) → is_lt o ≡ true → o ≡ Less
is_lt-true Less e = refl
is_lt-true Equal e = absurd (false≢true e)
is_lt-true Greater e = absurd (false≢true e)

pub is_lt-false : (o : Ordering) → is_lt o ≡ false → o ≡ Less → ⊥
is_lt-false Less e h = true≢false e
is_lt-false Equal e h = cc
is_lt-false Greater e h = cc
