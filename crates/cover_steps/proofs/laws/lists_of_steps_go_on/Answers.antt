use Rattle.cover_steps.proofs.Going.{runs-go_on}
use Rattle.cover_steps.proofs.laws.lists_of_steps_go_on.Goals as goal

pub returns : goal.returns
returns c = runs-go_on
