-- Verdicts on candidates, each by the job that it has on a snapshot of the rows.
use Rattle.std.proofs.Common.{◌≡◌, ℕ, true, sym, ◌∙◌, subst}
use Rattle.rel_base.specs.CodeTable.{CodeTable}
use Rattle.rel_base.specs.JobParts.{JobParts}
use Rattle.rel_base.specs.RowState.{RowState, next}
use Rattle.rel_base.specs.Shows.{holds_in}
use Rattle.cover_steps.specs.Sound.{Fits}
use Rattle.validator.specs.Verdicts.{IsFitting}
use Rattle.cover_core.specs.declared.waiting.Waiting.{Waiting}
use Rattle.cover_core.specs.Judged.{job_for, IsAsked, IsHeld}
use Rattle.cover_core.proofs.Booking.{IsFitting-fits}
use Rattle.cover_core.proofs.Whole.{IsJobOf}

module _ (r : RowState) (table : CodeTable) (w : Waiting) (n : ℕ) (e : n ≡ next r) (job : JobParts) (is : IsJobOf job w.target w.cand n table) where
  same : job ≡ job_for r table w
  same = λ k. record { target = is.target k; left = is.left k; from = is.from k; to = (is.to ∙ e) k; snapshot = is.shared k }

  pub asked-fits : IsAsked r table w → Fits r job
  asked-fits asked = subst (Fits r) (sym same) asked

  pub asked-fitting : IsAsked r table w → IsFitting job
  asked-fitting asked = IsFitting-fits r job (asked-fits asked)

  pub asked-held : IsAsked r table w → holds_in job.snapshot job.left job.target ≡ true → IsHeld r table w
  asked-held asked h = record { fits = asked; holds = subst (λ (j : JobParts). holds_in j.snapshot j.left j.target ≡ true) same h }

  pub held-holds : IsHeld r table w → holds_in job.snapshot job.left job.target ≡ true
  held-holds held = subst (λ (j : JobParts). holds_in j.snapshot j.left j.target ≡ true) (sym same) held.holds
