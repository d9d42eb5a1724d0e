use Rattle.approx_fd.proofs.Listing.{no_errors}
use Rattle.approx_fd.proofs.laws.no_errors_give_covers.Goals as goal

pub returns : goal.returns
returns c r = no_errors r
