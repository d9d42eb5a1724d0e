use Rattle.approx_fd.proofs.Removing.{removed-more}
use Rattle.approx_fd.proofs.laws.more_columns_remove_no_more.Goals as goal

pub returns : goal.returns
returns c r x y t sub = removed-more r x y t sub
