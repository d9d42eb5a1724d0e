use Rattle.lossless_join.proofs.Heath.{IsJoinOf-split}
use Rattle.lossless_join.proofs.laws.splits_are_lossless.Goals as goal

pub returns : goal.returns
returns c = λ r s x y is equal bound split. IsJoinOf-split r is equal s x y bound split
