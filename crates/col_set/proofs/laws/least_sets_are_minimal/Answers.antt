use Rattle.col_set.specs.Evidence.{least}
use Rattle.col_set.proofs.Least.{Listed-least, IsLeast-listed}
use Rattle.col_set.proofs.Places.{Contains-listed, Listed-contained}
use Rattle.col_set.proofs.laws.least_sets_are_minimal.Goals as goal

pub returns : goal.returns
returns c n ws t x = (λ h. IsLeast-listed n ws t x (Listed-contained x (least n ws t) h), λ l. Contains-listed x (least n ws t) (Listed-least n ws t x l))
