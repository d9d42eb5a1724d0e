use Rattle.lossless_join.proofs.Heath.{IsJoinOf-splits}
use Rattle.lossless_join.proofs.laws.repeated_splits_are_lossless.Goals as goal

pub returns : goal.returns
returns c = λ r s sets is equal bound splits. IsJoinOf-splits r is equal s sets bound splits
