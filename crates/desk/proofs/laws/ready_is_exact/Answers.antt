use Rattle.desk.proofs.Running.{ready_exact}
use Rattle.desk.proofs.laws.ready_is_exact.Goals as goal

pub returns : goal.returns
returns c = ready_exact
