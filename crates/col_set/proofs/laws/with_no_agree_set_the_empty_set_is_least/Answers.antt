use Rattle.col_set.proofs.More.{least-empty}
use Rattle.col_set.proofs.laws.with_no_agree_set_the_empty_set_is_least.Goals as goal

pub returns : goal.returns
returns c = least-empty
