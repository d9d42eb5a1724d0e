use Rattle.cover_steps.proofs.Going.{witnesses_stay}
use Rattle.cover_steps.proofs.laws.witnesses_stay_while_their_rows_live.Goals as goal

pub returns : goal.returns
returns c = witnesses_stay
