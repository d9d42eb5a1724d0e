use Rattle.nary_ind.proofs.Listing.{listed}
use Rattle.nary_ind.proofs.laws.inclusions_stand_once_in_order.Goals as goal

pub returns : goal.returns
returns c w rs = listed rs w
