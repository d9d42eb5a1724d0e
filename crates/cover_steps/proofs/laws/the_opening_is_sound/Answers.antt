use Rattle.cover_steps.proofs.Whole.{opening-sound}
use Rattle.cover_steps.proofs.laws.the_opening_is_sound.Goals as goal

pub returns : goal.returns
returns c = opening-sound
