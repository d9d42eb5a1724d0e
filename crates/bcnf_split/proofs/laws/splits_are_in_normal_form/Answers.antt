use Rattle.rel_base.proofs.States.{live_climbs}
use Rattle.bcnf_split.proofs.Splitting.{SplitMeans-splits}
use Rattle.bcnf_split.proofs.laws.splits_are_in_normal_form.Goals as goal

pub returns : goal.returns
returns c r s is b = SplitMeans-splits r s (live_climbs r is) b
