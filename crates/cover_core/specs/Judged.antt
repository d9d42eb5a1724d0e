-- What the verdicts of a pass are asked, and what they tell.
use Rattle.std.specs.Prelude.{◌≡◌, true}
use Rattle.std.specs.List.{All}
use Rattle.rel_base.specs.CodeTable.{CodeTable}
use Rattle.rel_base.specs.JobParts.{JobParts}
use Rattle.rel_base.specs.RowState.{RowState, next}
use Rattle.rel_base.specs.Shows.{holds_in}
use Rattle.cover_steps.specs.Sound.{Fits}
use Rattle.cover_core.specs.declared.judging.Verdicts.{Verdicts}
use Rattle.cover_core.specs.declared.waiting.Waiting.{Waiting}
use Rattle.cover_steps.specs.Evidences.{IsEvidence}

-- the job of a candidate on a snapshot of the rows
abbrev pub job_for : RowState → CodeTable → Waiting → JobParts
job_for r table w = record { target = w.target; left = w.cand.left; from = w.cand.upto; to = next r; snapshot = table }

-- its job fits the rows
abbrev pub IsAsked : RowState → CodeTable → Waiting → Type 0
IsAsked r table w = Fits r (job_for r table w)

-- and its dependency holds in the snapshot
pub record IsHeld (r : RowState) (table : CodeTable) (w : Waiting) : Type 0 where
  pub fits : Fits r (job_for r table w)
  pub holds : holds_in table w.cand.left w.target ≡ true

-- it was seen to hold in some snapshot of the rows
pub record IsSeen (r : RowState) (w : Waiting) : Type 0 where
  pub table : CodeTable
  pub held : IsHeld r table w

-- those that are told to hold do, and what else is told is evidence
abbrev pub AreVerdicts : RowState → CodeTable → Verdicts → Type 0
AreVerdicts r table v = All (IsHeld r table) v.held.items × All (IsEvidence r) v.found.items
