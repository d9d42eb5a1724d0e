use Rattle.cover_steps.proofs.Same.{jobs_alike}
use Rattle.cover_steps.proofs.laws.jobs_tell_the_same_rows.Goals as goal

pub returns : goal.returns
returns c = jobs_alike
