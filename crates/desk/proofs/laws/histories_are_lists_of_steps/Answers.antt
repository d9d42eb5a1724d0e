use Rattle.desk.proofs.Running.{is_run}
use Rattle.desk.proofs.laws.histories_are_lists_of_steps.Goals as goal

pub returns : goal.returns
returns c = is_run
