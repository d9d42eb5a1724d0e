use Rattle.approx_fd.proofs.Removing.{removed-shown}
use Rattle.approx_fd.proofs.laws.snapshots_show_removed.Goals as goal

pub returns : goal.returns
returns c s r is shows x t = removed-shown s r is shows x t
