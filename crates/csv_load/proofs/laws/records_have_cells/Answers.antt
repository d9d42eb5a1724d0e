use Rattle.csv_load.proofs.Steps.{records_have_cells}
use Rattle.csv_load.proofs.laws.records_have_cells.Goals as goal

pub returns : goal.returns
returns c = records_have_cells
