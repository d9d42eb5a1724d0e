use Rattle.stripped_partition.proofs.Dependencies.{held-split, split-held}
use Rattle.stripped_partition.proofs.laws.no_split_tells_a_dependency.Goals as goal

pub returns : goal.returns
returns c s x a l = (held-split s x a l, split-held s x a)
