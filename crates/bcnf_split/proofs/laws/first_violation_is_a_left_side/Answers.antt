use Rattle.rel_base.proofs.States.{live_climbs}
use Rattle.bcnf_split.proofs.Violating.{FirstIsLeftSide-first}
use Rattle.bcnf_split.proofs.laws.first_violation_is_a_left_side.Goals as goal

pub returns : goal.returns
returns c r s is b = FirstIsLeftSide-first r s (live_climbs r is) b
