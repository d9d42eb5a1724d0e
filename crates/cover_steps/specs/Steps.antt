-- The steps of the shared cover: which reply a call may have, and the state after it.
use Rattle.std.specs.Prelude.{◌≡◌, ℕ, true, false, ◌⊎◌, List, Ok, Err, Some, None}
use Rattle.col_set.specs.declared.target.Target.{Target}
use Rattle.col_set.specs.ColSet.{Columns}
use Rattle.rel_base.specs.declared.batch.Op.{Op}
use Rattle.rel_base.specs.CodeTable.{IsCodeTable}
use Rattle.rel_base.specs.JobParts.{JobParts}
use Rattle.rel_base.specs.RowState.{RowState, next}
use Rattle.rel_base.specs.Validity.{agree_of}
use Rattle.rel_base.specs.Shows.{Shows}
use Rattle.rel_base.specs.Batches.{is_live, after, insert_count, delete_count}
use Rattle.candidate_cover.specs.declared.cand.Cand.{Cand}
use Rattle.cover_steps.specs.declared.step.Call.{Call}
use Rattle.cover_steps.specs.declared.step.Call.TheVariants.{Draw, Refute, Mark, Release, Apply, Settle}
use Rattle.cover_steps.specs.declared.step.Reply.{Reply}
use Rattle.cover_steps.specs.declared.step.Reply.TheVariants.{Job, Busy, Settled, Gone, Known, Booked, Marked, Dropped, Released, Applied, Refused, Ready, NotYet, NoMemory}
use Rattle.candidate_cover.specs.Cands.{is_listed, marked, holding}
use Rattle.cover_steps.specs.Core.{Core, cands, first_unfinished, first_drawable, refutes_some, with_cands, booked, with_rows, listed_covers}

-- the first candidate that is unfinished and not held is drawn: it is held from then on, and its job has a snapshot that shows the rows
pub record Draws (s : Core) (job : JobParts) (new : Core) : Type 0 where
  pub first : first_drawable s ≡ Some (job.target, record { left = job.left; upto = job.from; held = false })
  pub to : job.to ≡ next s.rows
  pub table : IsCodeTable job.snapshot
  pub shows : Shows job.snapshot s.rows
  pub after : new ≡ with_cands s job.target (holding (cands s job.target) job.left true)

-- all unfinished candidates are held, and this is the first of them
pub record IsBusy (s : Core) (t : Target) (x : Columns) : Type 0 where
  pub none : first_drawable s ≡ None
  pub first : (c : Cand) × (first_unfinished s ≡ Some (t, c)) × (c.left ≡ x)

abbrev pub IsDrawing : Core → Reply → Core → Type 0
IsDrawing s (Job job) new = Draws s job new
IsDrawing s (Busy t x) new = IsBusy s t x × (new ≡ s)
IsDrawing s Settled new = (first_unfinished s ≡ None) × (new ≡ s)
IsDrawing s NoMemory new = new ≡ s
IsDrawing s _ new = ⊥

-- which of two rows is not live, the first one first
abbrev pub IsGone : RowState → ℕ → ℕ → ℕ → Type 0
IsGone r i j row = ((is_live r i ≡ false) × (row ≡ i)) ⊎ ((is_live r i ≡ true) × (is_live r j ≡ false) × (row ≡ j))

-- two live rows, and whether what they agree on refutes a candidate
pub record AreLive (r : RowState) (i j : ℕ) : Type 0 where
  pub first : is_live r i ≡ true
  pub second : is_live r j ≡ true

abbrev pub IsRefuting : Core → ℕ → ℕ → Reply → Core → Type 0
IsRefuting s i j (Gone row) new = IsGone s.rows i j row × (new ≡ s)
IsRefuting s i j Known new = AreLive s.rows i j × (refutes_some s (agree_of s.rows i j) ≡ false) × (new ≡ s)
IsRefuting s i j Booked new = AreLive s.rows i j × (refutes_some s (agree_of s.rows i j) ≡ true) × (new ≡ booked s i j)
IsRefuting s i j NoMemory new = new ≡ s
IsRefuting s i j _ new = ⊥

abbrev pub IsMarking : Core → JobParts → Reply → Core → Type 0
IsMarking s job Marked new = (is_listed (cands s job.target) job.left ≡ true) × (new ≡ with_cands s job.target (marked (cands s job.target) job.left job.to))
IsMarking s job Dropped new = (is_listed (cands s job.target) job.left ≡ false) × (new ≡ s)
IsMarking s job _ new = ⊥

abbrev pub IsReleasing : Core → JobParts → Reply → Core → Type 0
IsReleasing s job Released new = (is_listed (cands s job.target) job.left ≡ true)
    × (new ≡ with_cands s job.target (holding (cands s job.target) job.left false))
IsReleasing s job Dropped new = (is_listed (cands s job.target) job.left ≡ false) × (new ≡ s)
IsReleasing s job _ new = ⊥

-- the batch was accepted, and these are its counts
pub record Accepts (s : Core) (ops : List Op) (inserted deleted : ℕ) (new : Core) : Type 0 where
  pub rows : RowState
  pub after : after s.rows ops ≡ Ok rows
  pub inserts : inserted ≡ insert_count ops
  pub deletes : deleted ≡ delete_count ops
  pub state : new ≡ with_rows s rows

abbrev pub IsApplying : Core → List Op → Reply → Core → Type 0
IsApplying s ops (Applied inserted deleted) new = Accepts s ops inserted deleted new
IsApplying s ops (Refused at why) new = (after s.rows ops ≡ Err (at, why)) × (new ≡ s)
IsApplying s ops NoMemory new = new ≡ s
IsApplying s ops _ new = ⊥

abbrev pub IsSettling : Core → Reply → Core → Type 0
IsSettling s (Ready covers) new = (first_unfinished s ≡ None) × (covers ≡ listed_covers s) × (new ≡ s)
IsSettling s (NotYet t x number) new = ((c : Cand) × (first_unfinished s ≡ Some (t, c)) × (c.left ≡ x) × (c.upto ≡ number)) × (new ≡ s)
IsSettling s NoMemory new = new ≡ s
IsSettling s _ new = ⊥

-- from the state s the call may have this reply, and then the state is new
abbrev pub Step : Core → Call → Reply → Core → Type 0
Step s Draw reply new = IsDrawing s reply new
Step s (Refute i j) reply new = IsRefuting s i j reply new
Step s (Mark job) reply new = IsMarking s job reply new
Step s (Release job) reply new = IsReleasing s job reply new
Step s (Apply ops) reply new = IsApplying s ops reply new
Step s Settle reply new = IsSettling s reply new
