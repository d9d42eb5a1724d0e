use Rattle.col_set.proofs.Specialise.{least-push}
use Rattle.col_set.proofs.laws.one_more_agree_set_specialises.Goals as goal

pub returns : goal.returns
returns c n ws t z apart = least-push n ws t z apart
