use Rattle.bcnf_split.proofs.Splitting.{SplitsAsSaid-splits}
use Rattle.bcnf_split.proofs.laws.splits_are_as_said.Goals as goal

pub returns : goal.returns
returns c r s is b = SplitsAsSaid-splits r s b
