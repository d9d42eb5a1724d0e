use Rattle.cover_steps.proofs.Decided.{decide}
use Rattle.cover_steps.proofs.laws.witnesses_decide_what_is_known.Goals as goal

pub returns : goal.returns
returns c = decide
