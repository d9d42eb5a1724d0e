-- What a worker goes by.
use Rattle.std.specs.Prelude.{◌≡◌, ◌≢◌, ℕ, true, List}
use Rattle.std.specs.List.{All}
use Rattle.rel_base.specs.JobParts.{JobParts}
use Rattle.rel_base.specs.Alike.{Alike}
use Rattle.col_set.specs.Target.{IsColumnTarget}
use Rattle.rel_base.specs.Shows.{holds_in}
use Rattle.candidate_cover.specs.Cands.{width}
use Rattle.cover_steps.specs.Laws.{live_count}
use Rattle.cover_core.specs.Told.{Answers}
use Rattle.cover_core.specs.declared.known.Known.{Known}

-- each pair is of two different rows
abbrev pub AreDifferent : List (ℕ × ℕ) → Type 0
AreDifferent pairs = All (λ pair. pair.0 ≢ pair.1) pairs

-- where the two jobs have the same `to` and as many live rows, the rows of the one serve the other
abbrev pub Serves : JobParts → JobParts → Type 0
Serves kept job = kept.to ≡ job.to → live_count kept.snapshot ≡ live_count job.snapshot → Alike kept.snapshot job.snapshot

-- what is known may be asked for the job's verdict, and is right where it answers
pub record IsRightOf (known : Known) (job : JobParts) : Type 0 where
  pub target : IsColumnTarget (width known.candidates) job.target
  pub holds : Answers known job → holds_in job.snapshot job.left job.target ≡ true
