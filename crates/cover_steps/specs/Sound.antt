-- What is true of the shared cover between any two steps.
use Rattle.std.specs.Prelude.{◌≡◌, ◌≢◌, ◌<◌, ◌≤◌, ◌^◌, ◌↔◌, ℕ, true, List, length}
use Rattle.std.specs.List.{All, AllPairs, Contains}
use Rattle.col_set.specs.declared.target.Target.{Target}
use Rattle.col_set.specs.ColSet.{has}
use Rattle.col_set.specs.Target.{IsColumnTarget}
use Rattle.col_set.specs.Evidence.{least}
use Rattle.rel_base.specs.CodeTable.{IsCodeTable, code_at, live_at}
use Rattle.rel_base.specs.JobParts.{JobParts}
use Rattle.rel_base.specs.RowState.{RowState, IsRowState, width, next}
use Rattle.rel_base.specs.Validity.{agree_of, HoldsBelow}
use Rattle.rel_base.specs.Shows.{HoldsInBelow}
use Rattle.negative_cover.specs.declared.negative_cover.Witness.{Witness}
use Rattle.candidate_cover.specs.declared.cand.Cand.{Cand}
use Rattle.candidate_cover.specs.Cands.{lefts}
use Rattle.cover_steps.specs.Core.{Core, cands}
use Rattle.negative_cover.specs.Witnesses.{sets_of}

-- two different live rows, and what they agree on
pub record IsWitness (r : RowState) (w : Witness) : Type 0 where
  pub first : Contains r.live w.i
  pub second : Contains r.live w.j
  pub different : w.i ≢ w.j
  pub agrees : w.agree ≡ agree_of r w.i w.j

-- a candidate holds below its `upto`, which is at most the next number
pub record IsMarked (r : RowState) (t : Target) (c : Cand) : Type 0 where
  pub holds : HoldsBelow c.upto r c.left t
  pub first : 0 < c.upto
  pub last : c.upto ≤ next r

pub record Sound (s : Core) : Type 0 where
  pub rows : IsRowState s.rows
  pub witnesses : All (IsWitness s.rows) s.witnesses
  pub once : AllPairs (λ v w. v.agree ≢ w.agree) s.witnesses
  pub columns : length s.candidates.columns ≡ width s.rows
  pub candidates : (t : Target) → IsColumnTarget (width s.rows) t → lefts (cands s t) ≡ least (width s.rows) (sets_of s.witnesses) t
  pub marks : (t : Target) → IsColumnTarget (width s.rows) t → All (IsMarked s.rows t) (cands s t)

-- of the rows below the job's `to` that are live now, two have equal codes in a column exactly where they agree on it
abbrev pub AreCodedAlike : RowState → JobParts → Type 0
AreCodedAlike r job = (i j k : ℕ) → Contains r.live i → Contains r.live j → i < job.to → j < job.to → i ≢ j → k < width r
    → (code_at job.snapshot i k ≡ code_at job.snapshot j k) ↔ (has (agree_of r i j) k ≡ true)

-- A job fits the rows: its dependency holds in its snapshot below its `from`, and of the rows below its `to` each that is
-- live now was live in the snapshot, where two of them have equal codes exactly where they agree.
pub record Fits (r : RowState) (job : JobParts) : Type 0 where
  pub table : IsCodeTable job.snapshot
  pub columns : length job.snapshot.codes ≡ width r
  pub target : IsColumnTarget (width r) job.target
  pub left : job.left < 2 ^ width r
  pub to : job.to ≤ next r
  pub holds : HoldsInBelow job.from job.snapshot job.left job.target
  pub live : (i : ℕ) → Contains r.live i → i < job.to → live_at job.snapshot i ≡ true
  pub codes : AreCodedAlike r job

-- a sound state, and jobs that fit it
pub record SoundWith (s : Core) (jobs : List JobParts) : Type 0 where
  pub sound : Sound s
  pub fits : All (Fits s.rows) jobs
