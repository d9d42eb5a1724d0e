use Rattle.rel_base.proofs.States.{live_climbs}
use Rattle.bcnf_split.proofs.Violating.{ViolationsMean-tested}
use Rattle.bcnf_split.proofs.laws.violations_mean_no_normal_form.Goals as goal

pub returns : goal.returns
returns c r s is b = ViolationsMean-tested r s (live_climbs r is) b
