use Rattle.approx_fd.proofs.Removing.{removed-bounds}
use Rattle.approx_fd.proofs.laws.uniqueness_bounds_removed.Goals as goal

pub returns : goal.returns
returns c r is x a = removed-bounds r is x a
