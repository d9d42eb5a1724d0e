use Rattle.desk.proofs.Running.{rows_by_batches}
use Rattle.desk.proofs.laws.rows_go_by_batches.Goals as goal

pub returns : goal.returns
returns c = rows_by_batches
