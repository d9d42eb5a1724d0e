use Rattle.rel_base.proofs.Ordered.{covers-listed}
use Rattle.rel_base.proofs.laws.covers_list_each_once_in_order.Goals as goal

pub returns : goal.returns
returns c r is = covers-listed r is
