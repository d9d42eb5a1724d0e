use Rattle.approx_fd.proofs.Removing.{removed-zero, zero-removed}
use Rattle.approx_fd.proofs.laws.none_is_removed_where_it_holds.Goals as goal

pub returns : goal.returns
returns c r x t = ((λ e. removed-zero r x t e), (λ e. zero-removed r x t e))
