use Rattle.profile_text.proofs.Witnessed.{witnesses_leave}
use Rattle.profile_text.proofs.covering.refined.Goals as goal

pub returns-in-Ok-clause-evidence : goal.returns-in-Ok-clause-evidence
returns-in-Ok-clause-evidence g c = witnesses_leave c.in-Ok.refined.book c.in-Ok.ensures.sound c.in-Ok.ensures.finished
