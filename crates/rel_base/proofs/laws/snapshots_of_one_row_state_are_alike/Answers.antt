use Rattle.rel_base.proofs.Alike.{alike-shown}
use Rattle.rel_base.proofs.laws.snapshots_of_one_row_state_are_alike.Goals as goal

pub returns : goal.returns
returns c s u r is a b = alike-shown s u r is a b
