use Rattle.desk.proofs.Running.{quiet_turns_keep}
use Rattle.desk.proofs.laws.quiet_turns_keep_what_is_finished.Goals as goal

pub returns : goal.returns
returns c = quiet_turns_keep
