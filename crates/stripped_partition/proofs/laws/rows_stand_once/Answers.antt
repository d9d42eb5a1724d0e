use Rattle.stripped_partition.proofs.Dependencies.{RowsStandOnce-stripped}
use Rattle.stripped_partition.proofs.laws.rows_stand_once.Goals as goal

pub returns : goal.returns
returns c = RowsStandOnce-stripped
