-- What a book's candidates were known of at some time.
use Rattle.std.specs.Prelude.{◌≡◌, ◌≤◌, ℕ, length, Some}
use Rattle.col_set.specs.declared.target.Target.{Target}
use Rattle.col_set.specs.ColSet.{Columns}
use Rattle.col_set.specs.Target.{IsColumnTarget}
use Rattle.rel_base.specs.JobParts.{JobParts}
use Rattle.rel_base.specs.RowState.{RowState, width, next}
use Rattle.rel_base.specs.Validity.{Holds}
use Rattle.candidate_cover.specs.Cands.{cands_of, upto_of, width as width_of}
use Rattle.cover_steps.specs.Laws.{live_count}
use Rattle.cover_core.specs.declared.known.Known.{Known}

-- the left side was a candidate of the target that was known to hold in all rows that there were
pub record Tells (known : Known) (t : Target) (x : Columns) : Type 0 where
  pub upto : ℕ
  pub listed : upto_of (cands_of known.candidates t) x ≡ Some upto
  pub whole : known.next ≤ upto

-- and a job asks for it, of as many rows below the same number
pub record Answers (known : Known) (job : JobParts) : Type 0 where
  pub tells : Tells known job.target job.left
  pub next : job.to ≡ known.next
  pub live : live_count job.snapshot ≡ known.live

-- It speaks of these rows, and each dependency of which it tells holds in them.
pub record IsTrueOf (r : RowState) (known : Known) : Type 0 where
  pub wide : width_of known.candidates ≡ width r
  pub next : known.next ≡ next r
  pub live : known.live ≡ length r.live
  pub holds : (t : Target) (x : Columns) → IsColumnTarget (width r) t → Tells known t x → Holds r x t
