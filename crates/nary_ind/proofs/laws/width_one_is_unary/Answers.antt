use Rattle.nary_ind.proofs.OneColumn.{width-one}
use Rattle.nary_ind.proofs.laws.width_one_is_unary.Goals as goal

pub returns : goal.returns
returns c = width-one
