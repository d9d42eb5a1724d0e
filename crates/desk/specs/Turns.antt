-- What the book is asked at the desk and what it replies, and who may ask.
use Rattle.std.specs.Prelude.{◌≡◌, ◌≢◌, ℕ, ◌^◌, ◌<◌, true, None, List, ◌++◌, map}
use Rattle.std.specs.List.{All, Contains}
use Rattle.std.proofs.Common.{sym, ap, ◌∙◌, subst}
use Rattle.std.proofs.lemmas.List.{map-append}
use Rattle.std.proofs.lemmas.List.Elements.{Contains-append_left}
use Rattle.std.proofs.lemmas.Grind.{flat_map-append}
use Rattle.col_set.specs.Target.{IsColumnTarget}
use Rattle.rel_base.specs.JobParts.{JobParts}
use Rattle.rel_base.specs.RowState.{width}
use Rattle.rel_base.specs.Validity.{agree_of}
use Rattle.rel_base.specs.Shows.{holds_in}
use Rattle.rel_base.specs.Batches.{IsAsWide}
use Rattle.cover_steps.specs.declared.step.Call.{Call}
use Rattle.cover_steps.specs.declared.step.Call.TheVariants.{Draw, Refute, Mark, Release, Apply, Settle}
use Rattle.cover_steps.specs.declared.step.Reply.{Reply as Answer}
use Rattle.cover_steps.specs.declared.step.Reply.TheVariants as answers
use Rattle.cover_steps.specs.Core.{Core, first_drawable, first_unfinished, refutes_some}
use Rattle.cover_steps.specs.Steps.{Step, AreLive}
use Rattle.cover_steps.specs.Sound.{Sound}
use Rattle.cover_steps.specs.Histories.{drawn, all_drawn, Entry as Turn}
use Rattle.cover_core.specs.Replies.{reply_of_draw, reply_of_refutation, reply_of_mark, reply_of_release, reply_of_batch, reply_of_settle}
use Rattle.desk_lock.specs.declared.history.Entry.{Entry}
use Rattle.desk.specs.declared.turns.Reply.{Reply}
use Rattle.desk.specs.declared.turns.Reply.TheVariants.{Drawn, Refuted, Marked, Released, Applied, Settled, NoMemory}

-- the reply as one of the shared cover
abbrev pub answer : Reply → Answer
answer (Drawn draw) = reply_of_draw draw
answer (Refuted refutation outdated) = reply_of_refutation refutation
answer (Marked marking back) = reply_of_mark marking
answer (Released given back) = reply_of_release given
answer (Applied applying back outdated) = reply_of_batch applying
answer (Settled settling) = reply_of_settle settling
answer NoMemory = answers.NoMemory

-- the reply is one to such a call, and what was handed in comes back with it
abbrev pub IsTo : Call → Reply → Type 0
IsTo Draw (Drawn draw) = Unit {0}
IsTo Draw NoMemory = Unit {0}
IsTo (Refute i j) (Refuted refutation outdated) = Unit {0}
IsTo (Refute i j) NoMemory = Unit {0}
IsTo (Mark job) (Marked marking back) = back ≡ job
IsTo (Release job) (Released given back) = back ≡ job
IsTo (Apply ops) (Applied applying back outdated) = back ≡ ops
IsTo Settle (Settled settling) = Unit {0}
IsTo Settle NoMemory = Unit {0}
IsTo _ _ = ⊥

-- memory runs out only where it was wanted: for a job, for a witness, for the covers
abbrev pub IsWanted : Core → Call → Reply → Type 0
IsWanted s Draw NoMemory = first_drawable s ≢ None
IsWanted s (Refute i j) NoMemory = AreLive s.rows i j × (refutes_some s (agree_of s.rows i j) ≡ true)
IsWanted s Settle NoMemory = first_unfinished s ≡ None
IsWanted s _ _ = Unit {0}

-- one turn is one step of the shared cover
abbrev pub booked : Core → Call → Reply → Core → Type 0
booked s call reply new = Step s call (answer reply) new × IsTo call reply × IsWanted s call reply

-- the history as one of the shared cover
abbrev pub turn_of : Entry Call Reply → Turn
turn_of e = record { call = e.call; reply = answer e.reply }

abbrev pub turns_of : List (Entry Call Reply) → List Turn
turns_of es = map turn_of es

-- the jobs that were drawn
abbrev pub jobs_in : List (Entry Call Reply) → List JobParts
jobs_in es = all_drawn (turns_of es)

-- What a call needs: a job that is marked was drawn, and its dependency holds in its snapshot; who changes rows bears 0, and the
-- rows are as wide as there are columns; two different rows refute; a job that is given back has columns that there are.
abbrev pub Suits : Core → ℕ → List (Entry Call Reply) → Call → Type 0
Suits opened number past Draw = Unit {0}
Suits opened number past (Refute i j) = i ≢ j
Suits opened number past (Mark job) = Contains (jobs_in past) job × (holds_in job.snapshot job.left job.target ≡ true)
Suits opened number past (Release job) = IsColumnTarget (width opened.rows) job.target × (job.left < 2 ^ width opened.rows)
Suits opened number past (Apply ops) = (number ≡ 0) × All (IsAsWide (width opened.rows)) ops
Suits opened number past Settle = Unit {0}

-- the desk was opened with a sound book, and the call suits what came before
abbrev pub allowed : Core → ℕ → List (Entry Call Reply) → Call → Type 0
allowed opened number past call = Sound opened × Suits opened number past call

pub jobs_in-append : (past more : List (Entry Call Reply)) → jobs_in (past ++ more) ≡ jobs_in past ++ jobs_in more
jobs_in-append past more = ap all_drawn (map-append turn_of past more) ∙ flat_map-append (λ (e : Turn). drawn e.reply) (turns_of past) (turns_of more)

pub drawn_later : (past more : List (Entry Call Reply)) (job : JobParts) → Contains (jobs_in past) job → Contains (jobs_in (past ++ more)) job
drawn_later past more job h =
    subst (λ (jobs : List JobParts). Contains jobs job) (sym (jobs_in-append past more)) (Contains-append_left (jobs_in past) (jobs_in more) job h)

suits_later : (opened : Core) (number : ℕ) (past more : List (Entry Call Reply)) (call : Call) → Suits opened number past call
    → Suits opened number (past ++ more) call
suits_later opened number past more Draw h = tt
suits_later opened number past more (Refute i j) h = h
suits_later opened number past more (Mark job) h = (drawn_later past more job h.0, h.1)
suits_later opened number past more (Release job) h = h
suits_later opened number past more (Apply ops) h = h
suits_later opened number past more Settle h = tt

-- what may be done stays so
pub allowed_later : (opened : Core) (number : ℕ) (past more : List (Entry Call Reply)) (call : Call) → allowed opened number past call
    → allowed opened number (past ++ more) call
allowed_later opened number past more call h = (h.0, suits_later opened number past more call h.1)
