use Rattle.cover_steps.proofs.Going.{quiet_keeps}
use Rattle.cover_steps.proofs.laws.quiet_steps_keep_what_is_finished.Goals as goal

pub returns : goal.returns
returns c = quiet_keeps
