use Rattle.desk.proofs.Running.{same_rows}
use Rattle.desk.proofs.laws.jobs_tell_the_same_rows.Goals as goal

pub returns : goal.returns
returns c = same_rows
