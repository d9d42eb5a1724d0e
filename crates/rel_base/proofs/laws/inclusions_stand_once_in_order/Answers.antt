use Rattle.rel_base.proofs.Ordered.{inclusions-listed}
use Rattle.rel_base.proofs.laws.inclusions_stand_once_in_order.Goals as goal

pub returns : goal.returns
returns c columns = inclusions-listed columns
