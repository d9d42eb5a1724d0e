use Rattle.desk.proofs.Running.{drawn_fit}
use Rattle.desk.proofs.laws.drawn_jobs_fit.Goals as goal

pub returns : goal.returns
returns c = drawn_fit
