use Rattle.csv_load.proofs.FirstRefused.{accepted, accepts}
use Rattle.csv_load.proofs.laws.what_is_within_the_limits_is_accepted.Goals as goal

pub returns : goal.returns
returns c = λ limits content. (accepted limits content, accepts limits content)
