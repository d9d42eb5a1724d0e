use Rattle.approx_fd.proofs.Removing.{removed-means}
use Rattle.approx_fd.proofs.laws.removed_is_the_least_number.Goals as goal

pub returns : goal.returns
returns c r is x t = removed-means r is x t
