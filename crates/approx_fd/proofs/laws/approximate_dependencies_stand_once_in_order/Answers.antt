use Rattle.approx_fd.proofs.Listing.{listed}
use Rattle.approx_fd.proofs.laws.approximate_dependencies_stand_once_in_order.Goals as goal

pub returns : goal.returns
returns c most r is = listed most r is
