-- Jobs drawn from a sound state, and what their verdicts book.
use Rattle.std.proofs.Common.{◌≡◌, ◌≢◌, ℕ, ◌<◌, ◌^◌, eqb, ltb, true, false, not, ◌&&◌, refl, sym, ap, ◌∙◌, subst, arith, List, Option, Some}
use Rattle.std.specs.List.{Contains}
use Rattle.std.proofs.lemmas.Bool.{and_parts, and_from, not-true, not_from_false, eq-eqb, ltb-true}
use Rattle.col_set.specs.declared.target.Target.{Target}
use Rattle.col_set.specs.ColSet.{subset}
use Rattle.col_set.specs.Target.{IsColumnTarget, has_target}
use Rattle.col_set.specs.Subsets.{IsSubset, true-subset}
use Rattle.col_set.specs.Lists.{list_any_at}
use Rattle.col_set.proofs.Places.{Listed-contained}
use Rattle.rel_base.specs.CodeTable.{CodeTable, IsCodeTable}
use Rattle.rel_base.specs.JobParts.{JobParts}
use Rattle.rel_base.specs.RowState.{RowState, next}
use Rattle.rel_base.specs.Validity.{agree_of}
use Rattle.rel_base.specs.Batches.{is_live}
use Rattle.rel_base.specs.Shows.{Shows, code_agree, live_numbers}
use Rattle.rel_base.proofs.Shown.{live_numbers-shown, code_agree-shown, holds_in_below-true}
use Rattle.candidate_cover.specs.declared.cand.Cand.{Cand}
use Rattle.candidate_cover.specs.Cands.{holding, marked}
use Rattle.cover_steps.specs.Core.{Core, cands, entries, is_unfinished, is_drawable, first_unfinished, first_drawable, refutes_some, with_cands}
use Rattle.cover_steps.specs.Steps.{Draws, AreLive}
use Rattle.cover_steps.specs.Sound.{Sound, Fits}
use Rattle.cover_steps.proofs.Lists.{find-Some}
use Rattle.cover_steps.proofs.Found.{IsEntry, IsEntry-listed, Listed-entries}
use Rattle.cover_steps.proofs.Fitting.{Fits-shown}
use Rattle.cover_steps.proofs.Keeping.{cand-least, cand-marked}
use Rattle.validator.specs.Verdicts.{IsViolation, IsFitting}
use Rattle.cover_core.specs.Work.{work}
use Rattle.cover_core.proofs.Measure.{work-less, marked-no_more, marked-fewer}

-- the job of a candidate
abbrev pub job_of : Core → Target → Cand → CodeTable → JobParts
job_of s t c table = record { target = t; left = c.left; from = c.upto; to = next s.rows; snapshot = table }

-- the first candidate that is not held, as a draw's job
pub Draws-first : (s : Core) (t : Target) (c : Cand) (table : CodeTable) (new : Core) → first_drawable s ≡ Some (t, c) → IsCodeTable table → Shows table s.rows → new ≡ with_cands s t (holding (cands s t) c.left true) → Draws s (job_of s t c table) new
unfolding first_drawable
Draws-first s t c table new e is shows after = record {
  first = e ∙ ap (λ (d : Cand). let f : Target × Cand → Option (Target × Cand) = λ p. Some p in f (t, d)) (same c free);
  to = refl;
  table = is;
  shows = shows;
  after = after;
}
  where
    free : c.held ≡ false
    free = not-true c.held (and_parts (ltb c.upto (next s.rows)) (not c.held) (find-Some (λ (e : Target × Cand). is_drawable (next s.rows) e.1) (entries s) (t, c) e).1).1

    same : (c : Cand) → c.held ≡ false → c ≡ record { left = c.left; upto = c.upto; held = false }
    same c h = λ i. record { left = c.left; upto = c.upto; held = h i }

-- the first unfinished candidate is one
pub unfinished-entry : (s : Core) (t : Target) (c : Cand) → first_unfinished s ≡ Some (t, c) → IsEntry s t c × (c.upto < next s.rows)
unfolding first_unfinished
unfinished-entry s t c e =
    let w = find-Some (λ (e : Target × Cand). is_unfinished (next s.rows) e.1) (entries s) (t, c) e in
    (IsEntry-listed s (t, c) w.0, ltb-true c.upto (next s.rows) w.1)

-- a job that fits meets the premises of a validation
pub IsFitting-fits : (r : RowState) (job : JobParts) → Fits r job → IsFitting job
IsFitting-fits r job fits = record {
  left = subst (λ (n : ℕ). job.left < 2 ^ n) (sym fits.columns) fits.left;
  target = subst (λ (n : ℕ). IsColumnTarget n job.target) (sym fits.columns) fits.target;
  below = holds_in_below-true job.snapshot job.from job.left job.target fits.holds;
}

module _ (s : Core) (sound : Sound s) (t : Target) (c : Cand) (entry : IsEntry s t c) (table : CodeTable) (is : IsCodeTable table) (shows : Shows table s.rows) where
  pub Fits-entry : Fits s.rows (job_of s t c table)
  Fits-entry = Fits-shown s.rows (job_of s t c table) sound.rows is shows entry.target (cand-least s t c sound entry.target entry.listed).below refl (cand-marked s t c sound entry.target entry.listed).holds

  -- the premises of a validation
  pub IsFitting-entry : IsFitting (job_of s t c table)
  IsFitting-entry = IsFitting-fits s.rows (job_of s t c table) Fits-entry

  module _ (i j : ℕ) (violation : IsViolation table c.left t i j) where
    live_of : (k : ℕ) → Contains (live_numbers table) k → Contains s.rows.live k
    live_of k h = subst (λ (ks : List ℕ). Contains ks k) (live_numbers-shown table s.rows sound.rows shows) h

    is_live_of : (k : ℕ) → Contains (live_numbers table) k → is_live s.rows k ≡ true
    is_live_of k h = list_any_at (eqb k) k s.rows.live (Listed-contained k s.rows.live (live_of k h)) (eq-eqb k k refl)

    pub apart : i ≢ j
    apart e = let l = violation.rising in absurd (omega arith)

    -- a pair that breaks a candidate is of two live rows, whose agree set refutes it
    pub violation-live : AreLive s.rows i j
    violation-live = record { first = is_live_of i violation.first; second = is_live_of j violation.second }

    pub violation-refutes : refutes_some s (agree_of s.rows i j) ≡ true
    unfolding refutes_some
    violation-refutes =
        let same : code_agree table i j ≡ agree_of s.rows i j = code_agree-shown table s.rows sound.rows shows i j (live_of i violation.first) (live_of j violation.second) apart in
        list_any_at (λ (e : Target × Cand). subset e.1.left (agree_of s.rows i j) && not (has_target (agree_of s.rows i j) e.0)) (t, c) (entries s) (Listed-entries s t c entry.target entry.listed)
        (and_from _ _ (true-subset (subst (IsSubset c.left) same violation.left)) (not_from_false _ (ap (λ (z : ℕ). has_target z t) (sym same) ∙ violation.target)))

  -- a mark up to the next number leaves less to do
  pub work-marked : c.upto < next s.rows → work (with_cands s t (marked (cands s t) c.left (next s.rows))) < work s
  work-marked l = work-less s sound t entry.target (marked (cands s t) c.left (next s.rows)) (marked-no_more (next s.rows) c.left (cands s t)) (marked-fewer (next s.rows) c.left c (cands s t) entry.listed refl l)
