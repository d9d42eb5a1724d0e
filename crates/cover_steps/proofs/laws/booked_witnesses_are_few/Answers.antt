use Rattle.cover_steps.proofs.Whole.{booked-few}
use Rattle.cover_steps.proofs.laws.booked_witnesses_are_few.Goals as goal

pub returns : goal.returns
returns c = booked-few
