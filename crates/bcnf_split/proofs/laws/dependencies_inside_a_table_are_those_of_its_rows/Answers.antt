use Rattle.bcnf_split.proofs.Inside.{HoldsInsideTables-projection}
use Rattle.bcnf_split.proofs.laws.dependencies_inside_a_table_are_those_of_its_rows.Goals as goal

pub returns : goal.returns
returns c r s is b = HoldsInsideTables-projection r s b
