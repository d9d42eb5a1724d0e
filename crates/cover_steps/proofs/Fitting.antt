-- Jobs that fit.
use Rattle.std.proofs.Common.{inl, inr, ◌≡◌, ◌≢◌, ◌⊎◌, ℕ, zero, suc, ◌+◌, ◌-◌, ◌<◌, ◌≤◌, ◌^◌, eqb, true, false, sym, ap, ◌∙◌, subst, arith, length}
use Rattle.std.specs.List.{Contains, range_with_len}
use Rattle.std.proofs.lemmas.Bool.{false≢true, eqb-true, eq-eqb, cases_eq, cases_lt}
use Rattle.std.proofs.lemmas.List.{get_or_past}
use Rattle.col_set.specs.ColSet.{has, upto}
use Rattle.col_set.specs.Target.{IsColumnTarget, has_target}
use Rattle.col_set.specs.Members.{same_set}
use Rattle.col_set.specs.Subsets.{IsSubset, same_test}
use Rattle.col_set.specs.AllSets.{set_of-has, has-set_of, Listed-upto, Listed-upto_within}
use Rattle.col_set.specs.Lists.{Listed, Listed-filter, Listed-filter_parts}
use Rattle.col_set.proofs.Places.{Contains-listed, Listed-contained}
use Rattle.rel_base.specs.CodeTable.{CodeTable, IsCodeTable, code_at, live_at}
use Rattle.rel_base.specs.JobParts.{JobParts}
use Rattle.rel_base.specs.RowState.{RowState, IsRowState, width, next, row}
use Rattle.rel_base.specs.Validity.{agree_of, HoldsBelow}
use Rattle.rel_base.specs.Shows.{Shows, code_agree, live_numbers, holds_in}
use Rattle.rel_base.specs.Laws.{Follows}
use Rattle.rel_base.proofs.Agree.{agree-parts}
use Rattle.rel_base.proofs.States.{live_climbs, live_positive}
use Rattle.rel_base.proofs.Valid.{holds_below-true}
use Rattle.rel_base.proofs.Changes.{agree_of-follows}
use Rattle.rel_base.proofs.Shown.{holds_in_below-shown, HoldsIn-tested, HoldsInBelow-tested}
use Rattle.cover_steps.specs.Sound.{Fits}

Listed-range : (n a k : ℕ) → a ≤ k → k < a + n → Listed k (range_with_len a n)
Listed-range zero a k l h = absurd (omega arith)
Listed-range (suc n) a k l h = here (cases_eq k a) (λ g. Listed-range n (a + 1) k g (omega arith))
  where
    here : (k ≡ a) ⊎ (k ≢ a) → (a + 1 ≤ k → Listed k (range_with_len (a + 1) n)) → Listed k (range_with_len a (suc n))
    here (inl e) rest = inl e
    here (inr ne) rest = inr (rest (omega arith))

-- a row that a snapshot says is live is among its live numbers
live_listed : (s : CodeTable) (i : ℕ) → IsCodeTable s → 0 < i → live_at s i ≡ true → Contains (live_numbers s) i
unfolding live_numbers
live_listed s i is p e = Contains-listed i (live_numbers s) (Listed-filter (live_at s) i (range_with_len 1 (s.to - 1)) (Listed-range (s.to - 1) 1 i (omega arith) within) e)
  where
    within : i < 1 + (s.to - 1)
    within = elim (cases_lt (i - 1) (length s.live)) as (λ _. i < 1 + (s.to - 1)) [
      | inl l ↦ let f = is.flagged in omega arith
      | inr g ↦ absurd (false≢true (sym (get_or_past s.live (i - 1) false g) ∙ e))
    ]

module _ (r : RowState) (is : IsRowState r) (job : JobParts) (fits : Fits r job) where
  -- two rows that are live now and below `to` have the agree set that the snapshot's codes give
  pub code_agree-fits : (i j : ℕ) → Contains r.live i → Contains r.live j → i < job.to → j < job.to → i ≢ j → code_agree job.snapshot i j ≡ agree_of r i j
  unfolding code_agree
  code_agree-fits i j h g l m ne = same_set _ _ (λ k. same_test _ _
      (λ e. let w = Listed-filter_parts (λ k. eqb (code_at job.snapshot i k) (code_at job.snapshot j k)) k (upto (length job.snapshot.codes)) (set_of-has k _ e) in
      (fits.codes i j k h g l m ne (subst (λ (n : ℕ). k < n) fits.columns (Listed-upto_within (length job.snapshot.codes) k w.0))).0 (eqb-true _ _ w.1))
      (λ e. let n = (agree-parts r.nulls (width r) (row r i) (row r j) k e).0 in
      has-set_of k _ (Listed-filter (λ k. eqb (code_at job.snapshot i k) (code_at job.snapshot j k)) k (upto (length job.snapshot.codes)) (Listed-upto (length job.snapshot.codes) k (subst (λ (m : ℕ). k < m) (sym fits.columns) n))
      (eq-eqb _ _ ((fits.codes i j k h g l m ne n).1 e)))))

  -- A dependency that holds in a job's snapshot holds among the rows that are live now and have numbers below its `to`.
  pub HoldsBelow-fits : holds_in job.snapshot job.left job.target ≡ true → HoldsBelow job.to r job.left job.target
  HoldsBelow-fits e = record {
    each = λ i j h g l m ne w.
        let a = live_listed job.snapshot i fits.table (live_positive r i is (Listed-contained i r.live h)) (fits.live i h l) in
        let b = live_listed job.snapshot j fits.table (live_positive r j is (Listed-contained j r.live g)) (fits.live j g m) in
        let same = code_agree-fits i j h g l m ne in
        ap (λ (z : ℕ). has_target z job.target) (sym same) ∙ (HoldsIn-tested job.snapshot job.left job.target e).each i j a b ne (subst (IsSubset job.left) (sym same) w);
  }

-- what fitted before rows were changed fits afterwards
pub Fits-follows : (r s : RowState) (job : JobParts) → IsRowState r → Follows r s → Fits r job → Fits s job
Fits-follows r s job is f fits = record {
  table = fits.table;
  columns = fits.columns ∙ sym same;
  target = subst (λ (n : ℕ). IsColumnTarget n job.target) (sym same) fits.target;
  left = subst (λ (n : ℕ). job.left < 2 ^ n) (sym same) fits.left;
  to = let a = fits.to in let b = f.more in omega arith;
  holds = fits.holds;
  live = λ i h l. fits.live i (was i h l) l;
  codes = λ i j k h g l m ne n.
      let e = fits.codes i j k (was i h l) (was j g m) l m ne (subst (λ (w : ℕ). k < w) same n) in
      let a : agree_of s i j ≡ agree_of r i j = agree_of-follows r s i j is f (Listed-contained i r.live (was i h l)) (Listed-contained j r.live (was j g m)) in
      ((λ c. ap (λ (z : ℕ). has z k) a ∙ e.0 c), (λ c. e.1 (ap (λ (z : ℕ). has z k) (sym a) ∙ c)));
}
  where
    same : width s ≡ width r
    same = ap length f.names

    was : (i : ℕ) → Contains s.live i → i < job.to → Contains r.live i
    was i h l = f.live i (let a = fits.to in omega arith) h

-- a job that is drawn from rows that its snapshot shows fits them
pub Fits-shown : (r : RowState) (job : JobParts) → IsRowState r → IsCodeTable job.snapshot → Shows job.snapshot r → IsColumnTarget (width r) job.target → job.left < 2 ^ width r → job.to ≡ next r → HoldsBelow job.from r job.left job.target → Fits r job
Fits-shown r job is table shows target below to holds = record {
  table = table;
  columns = shows.columns;
  target = target;
  left = below;
  to = omega arith;
  holds = HoldsInBelow-tested job.snapshot job.from job.left job.target (holds_in_below-shown job.snapshot r is shows job.from job.left job.target ∙ holds_below-true job.from r job.left job.target (live_climbs r is) holds);
  live = λ i h l. (shows.live i (live_positive r i is (Listed-contained i r.live h))).1 h;
  codes = λ i j k h g l m ne n. shows.codes i j k h g ne n;
}
