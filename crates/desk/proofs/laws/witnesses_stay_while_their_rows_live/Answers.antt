use Rattle.desk.proofs.Running.{witnesses_stand}
use Rattle.desk.proofs.laws.witnesses_stay_while_their_rows_live.Goals as goal

pub returns : goal.returns
returns c = witnesses_stand
