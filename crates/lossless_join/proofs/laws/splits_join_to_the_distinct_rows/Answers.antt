use Rattle.lossless_join.proofs.Heath.{IsNaturalJoin-splits}
use Rattle.lossless_join.proofs.laws.splits_join_to_the_distinct_rows.Goals as goal

pub returns : goal.returns
returns c = λ r sets is equal splits. IsNaturalJoin-splits r is equal sets splits
