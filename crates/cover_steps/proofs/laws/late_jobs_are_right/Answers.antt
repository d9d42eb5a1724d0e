use Rattle.cover_steps.proofs.Whole.{late-jobs}
use Rattle.cover_steps.proofs.laws.late_jobs_are_right.Goals as goal

pub returns : goal.returns
returns c = late-jobs
