-- Whole lists of steps, by any number of actors.
use Rattle.std.specs.Prelude.{◌≡◌, ◌≢◌, ◌<◌, ◌^◌, ℕ, true, false, Bool, List, [], ◌∷◌, ◌++◌, count_by}
use Rattle.std.specs.List.{All, Contains, flat_map}
use Rattle.col_set.specs.Target.{IsColumnTarget}
use Rattle.rel_base.specs.JobParts.{JobParts}
use Rattle.rel_base.specs.RowState.{RowState, width}
use Rattle.rel_base.specs.Shows.{holds_in}
use Rattle.rel_base.specs.Batches.{after, kept_or_after}
use Rattle.rel_base.specs.Batches.{IsAsWide}
use Rattle.cover_steps.specs.declared.step.Call.{Call}
use Rattle.cover_steps.specs.declared.step.Call.TheVariants.{Draw, Refute, Mark, Release, Apply, Settle}
use Rattle.cover_steps.specs.declared.step.Reply.{Reply}
use Rattle.cover_steps.specs.declared.step.Reply.TheVariants.{Job, Booked, Applied}
use Rattle.cover_steps.specs.Core.{Core}
use Rattle.cover_steps.specs.Steps.{Step}

-- a call and its reply
pub record Entry : Type 0 where
  pub call : Call
  pub reply : Reply

-- When an actor may make a call, where these jobs were drawn before: a mark is of a job that was drawn, and that holds in
-- its snapshot; a refutation names two different rows; the rows of a batch are as wide as there are columns.
abbrev pub May : List JobParts → RowState → Call → Type 0
May jobs r Draw = Unit {0}
May jobs r (Refute i j) = i ≢ j
May jobs r (Mark job) = Contains jobs job × (holds_in job.snapshot job.left job.target ≡ true)
May jobs r (Release job) = IsColumnTarget (width r) job.target × (job.left < 2 ^ width r)
May jobs r (Apply ops) = All (IsAsWide (width r)) ops
May jobs r Settle = Unit {0}

-- the job that a reply brings
abbrev pub drawn : Reply → List JobParts
drawn (Job job) = job ∷ []
drawn _ = []

abbrev pub all_drawn : List Entry → List JobParts
all_drawn es = flat_map (λ e. drawn e.reply) es

-- the entries lead from s to new, where these jobs were drawn before
abbrev pub Runs : List JobParts → Core → List Entry → Core → Type 0
Runs jobs s [] new = new ≡ s
Runs jobs s (e ∷ es) new = (mid : Core) × May jobs s.rows e.call × Step s e.call e.reply mid × Runs (jobs ++ drawn e.reply) mid es new

-- the rows after a step: those after the batch, where it was accepted
abbrev pub rows_after_call : RowState → Call → Reply → RowState
rows_after_call r (Apply ops) (Applied inserted deleted) = kept_or_after r (after r ops)
rows_after_call r _ _ = r

-- the rows after the batches that were accepted
abbrev pub rows_after : RowState → List Entry → RowState
rows_after r [] = r
rows_after r (e ∷ es) = rows_after (rows_after_call r e.call e.reply) es

abbrev pub is_accepted : Reply → Bool
is_accepted (Applied inserted deleted) = true
is_accepted _ = false

abbrev pub is_booked : Reply → Bool
is_booked Booked = true
is_booked _ = false

-- how many witnesses were booked
abbrev pub booked_count : List Entry → ℕ
booked_count es = count_by (λ e. is_booked e.reply) es

-- no batch was accepted
abbrev pub IsQuiet : List Entry → Type 0
IsQuiet es = All (λ e. is_accepted e.reply ≡ false) es
