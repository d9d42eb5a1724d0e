-- The laws of whole lists of steps, which functions with an empty body ensure.
use Rattle.std.specs.Prelude.{◌≡◌, ◌<◌, ◌≤◌, ◌^◌, ◌↔◌, ◌==◌, ℕ, true, false, not, None, List, [], ◌∷◌, ◌++◌, length}
use Rattle.std.specs.List.{Contains, filter}
use Rattle.col_set.specs.declared.target.Target.{Target}
use Rattle.col_set.specs.ColSet.{Columns}
use Rattle.col_set.specs.Target.{IsColumnTarget, has_target}
use Rattle.col_set.specs.Evidence.{refutes, refuted}
use Rattle.rel_base.specs.JobParts.{JobParts}
use Rattle.rel_base.specs.RowState.{RowState, IsRowState, width, next}
use Rattle.rel_base.specs.Validity.{agree_sets, HoldsBelow}
use Rattle.rel_base.specs.Covers.{CoverLists, covers}
use Rattle.rel_base.specs.CodeTable.{CodeTable}
use Rattle.rel_base.specs.Shows.{Shows, live_numbers}
use Rattle.rel_base.specs.Alike.{Alike}
use Rattle.rel_base.specs.Laws.{Follows}
use Rattle.negative_cover.specs.declared.negative_cover.Witness.{Witness}
use Rattle.negative_cover.specs.Witnesses.{sets_of}
use Rattle.candidate_cover.specs.declared.cand.Cand.{Cand}
use Rattle.cover_steps.specs.declared.step.Call.TheVariants.{Refute, Mark, Release, Settle}
use Rattle.cover_steps.specs.declared.step.Reply.{Reply}
use Rattle.cover_steps.specs.declared.step.Reply.TheVariants.{Booked, Marked, Dropped, Ready}
use Rattle.cover_steps.specs.Core.{Core, opened_core, cands, first_unfinished, refutes_some, witness_of}
use Rattle.cover_steps.specs.Steps.{Step}
use Rattle.cover_steps.specs.Sound.{Sound, SoundWith}
use Rattle.cover_steps.specs.Histories.{Entry, May, Runs, all_drawn, rows_after, booked_count, IsQuiet}

-- The opening of rows is sound, with no job out.
abbrev pub OpeningIsSound : Type 0
OpeningIsSound = (r : RowState) → IsRowState r → SoundWith (opened_core r) []

-- Whatever the entries are, and however late, often or never jobs come back, the state stays sound, and each job fits.
abbrev pub StepsKeepSound : Type 0
StepsKeepSound = (jobs : List JobParts) (s new : Core) (es : List Entry) → SoundWith s jobs → Runs jobs s es new → SoundWith new (jobs ++ all_drawn es)

-- the answer that all is settled, with these covers
abbrev pub ready : CoverLists → Entry
ready c = record { call = Settle; reply = Ready c }

-- Each answer that all is settled carries the covers of the rows after the batches that were accepted before it.
abbrev pub ReadyIsExact : Type 0
ReadyIsExact = (jobs : List JobParts) (s new : Core) (before later : List Entry) (c : CoverLists) → SoundWith s jobs
    → Runs jobs s (before ++ ready c ∷ later) new → c ≡ covers (rows_after s.rows before)

-- each set once
unfoldable pub different : List ℕ → List ℕ
different [] = []
different (w ∷ ws) = w ∷ filter (λ v. not (w == v)) (different ws)

-- Where no batch is accepted, no more witnesses are booked than there are different agree sets of pairs of live rows.
abbrev pub BookedAreFew : Type 0
BookedAreFew = (jobs : List JobParts) (s new : Core) (before quiet : List Entry) → SoundWith s jobs → Runs jobs s (before ++ quiet) new → IsQuiet quiet
    → booked_count quiet ≤ length (different (agree_sets (rows_after s.rows before)))

-- a job that comes back, and the reply
abbrev pub marking : JobParts → Reply → Entry
marking job reply = record { call = Mark job; reply = reply }

abbrev pub releasing : JobParts → Reply → Entry
releasing job reply = record { call = Release job; reply = reply }

-- After these entries, a job's dependency holds among the rows that are then live and have numbers below its `to`, and the state at the end is sound.
pub record IsRight (s new : Core) (before : List Entry) (job : JobParts) : Type 0 where
  pub holds : HoldsBelow job.to (rows_after s.rows before) job.left job.target
  pub sound : Sound new

-- what is right after a job came back behind an earlier entry of it
abbrev pub ComesRight : List JobParts → Core → Core → List Entry → Entry → List Entry → JobParts → Reply → List Entry → Type 0
ComesRight jobs s new before earlier between job reply later =
    Runs jobs s ((before ++ earlier ∷ between) ++ marking job reply ∷ later) new → IsRight s new (before ++ earlier ∷ between) job

-- A job may come back at any time: late, twice, after it was released, and after its candidate went and came back.
pub record LateJobsAreRight (jobs : List JobParts) (s new : Core) : Type 0 where
  pub late : (before later : List Entry) (job : JobParts) (reply : Reply) → Runs jobs s (before ++ marking job reply ∷ later) new → IsRight s new before job
  pub twice : (before between later : List Entry) (job : JobParts) (first second : Reply)
      → ComesRight jobs s new before (marking job first) between job second later
  pub released : (before between later : List Entry) (job : JobParts) (first second : Reply)
      → ComesRight jobs s new before (releasing job first) between job second later
  pub came_back : (before between later : List Entry) (job : JobParts)
      → ComesRight jobs s new before (marking job Dropped) between job Marked later

-- ---- lists of steps that go on
-- Two lists of steps one after the other are a list of steps, and so is a list with one more step at its end; and each list
-- of steps that stands in two parts goes by a state between them.
pub record RunsGoOn (jobs : List JobParts) (s new : Core) : Type 0 where
  pub both : (mid : Core) (before later : List Entry) → Runs jobs s before mid → Runs (jobs ++ all_drawn before) mid later new
      → Runs jobs s (before ++ later) new
  pub parted : (before later : List Entry) → Runs jobs s (before ++ later) new → (mid : Core) × Runs jobs s before mid
      × Runs (jobs ++ all_drawn before) mid later new
  pub one_more : (mid : Core) (before : List Entry) (e : Entry) → Runs jobs s before mid → May (jobs ++ all_drawn before) mid.rows e.call
      → Step mid e.call e.reply new → Runs jobs s (before ++ e ∷ []) new

-- The rows at the end are those after the batches that were accepted, in order, and may come after those at the beginning;
-- the width stays.
pub record RowsAreAfter (s new : Core) (es : List Entry) : Type 0 where
  pub rows : new.rows ≡ rows_after s.rows es
  pub follows : Follows s.rows new.rows
  pub width : width new.rows ≡ width s.rows

abbrev pub RowsGoByBatches : Type 0
RowsGoByBatches = (jobs : List JobParts) (s new : Core) (es : List Entry) → SoundWith s jobs → Runs jobs s es new → RowsAreAfter s new es

-- Only an accepted batch makes a candidate unfinished: where each was known to hold in all rows, and none was accepted, each is.
abbrev pub QuietKeepsFinished : Type 0
QuietKeepsFinished = (jobs : List JobParts) (s new : Core) (quiet : List Entry) → SoundWith s jobs → Runs jobs s quiet new → IsQuiet quiet
    → first_unfinished s ≡ None → first_unfinished new ≡ None

-- the two rows of a witness are live
pub record Stands (r : RowState) (w : Witness) : Type 0 where
  pub first : Contains r.live w.i
  pub second : Contains r.live w.j

-- two rows that were booked
abbrev pub booking : ℕ → ℕ → Entry
booking i j = record { call = Refute i j; reply = Booked }

-- A witness is listed as long as its rows are live: one that there was, and one that was booked.
pub record WitnessesStay (jobs : List JobParts) (s new : Core) : Type 0 where
  pub there : (es : List Entry) (w : Witness) → Runs jobs s es new → Contains s.witnesses w → Stands new.rows w → Contains new.witnesses w
  pub booked : (before later : List Entry) (i j : ℕ) → Runs jobs s (before ++ booking i j ∷ later) new
      → Stands new.rows (witness_of (rows_after s.rows before) i j) → Contains new.witnesses (witness_of (rows_after s.rows before) i j)

-- ---- jobs of the same rows
-- how many rows are live in a snapshot
abbrev pub live_count : CodeTable → ℕ
live_count table = length (live_numbers table)

-- No number is given twice, and no row comes back: two jobs of one list of steps with the same `to` and as many live rows
-- were drawn from the same rows, so that their snapshots are alike. Likewise a job and the rows at the beginning.
pub record JobsOfTheSameRows (jobs : List JobParts) (s new : Core) (es : List Entry) : Type 0 where
  pub alike : (first second : JobParts) → Contains (all_drawn es) first → Contains (all_drawn es) second → first.to ≡ second.to
      → live_count first.snapshot ≡ live_count second.snapshot → Alike first.snapshot second.snapshot
  pub of_beginning : (job : JobParts) → Contains (all_drawn es) job → job.to ≡ next s.rows → live_count job.snapshot ≡ length s.rows.live
      → Shows job.snapshot s.rows
  pub of_end : (job : JobParts) → Contains (all_drawn es) job → job.to ≡ next new.rows → live_count job.snapshot ≡ length new.rows.live
      → Shows job.snapshot new.rows

-- ---- what the witnesses tell of an agree set
-- No witness refutes a candidate; and an agree set refutes none exactly where for each target that it lacks some witness that
-- lacks the target contains it.
pub record WitnessesDecide (s : Core) : Type 0 where
  pub none : (t : Target) (c : Cand) (w : Witness) → IsColumnTarget (width s.rows) t → Contains (cands s t) c → Contains s.witnesses w
      → refutes w.agree c.left t ≡ false
  pub known : (z : Columns) → z < 2 ^ width s.rows → (refutes_some s z ≡ false)
      ↔ ((t : Target) → IsColumnTarget (width s.rows) t → has_target z t ≡ false → refuted (sets_of s.witnesses) t z ≡ true)
