use Rattle.lossless_join.proofs.Bcnf.{SplitToBcnf-splits}
use Rattle.lossless_join.proofs.laws.the_split_to_bcnf_is_lossless.Goals as goal

pub returns : goal.returns
returns c = SplitToBcnf-splits
