use Rattle.cover_steps.proofs.Whole.{ready-exact}
use Rattle.cover_steps.proofs.laws.ready_is_exact.Goals as goal

pub returns : goal.returns
returns c = ready-exact
