use Rattle.cover_steps.proofs.Whole.{runs_keep}
use Rattle.cover_steps.proofs.laws.steps_keep_what_is_sound.Goals as goal

pub returns : goal.returns
returns c = runs_keep
