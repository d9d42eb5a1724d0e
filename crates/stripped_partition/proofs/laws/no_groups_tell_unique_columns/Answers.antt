use Rattle.stripped_partition.proofs.Dependencies.{no_groups-unique, unique-no_groups}
use Rattle.stripped_partition.proofs.laws.no_groups_tell_unique_columns.Goals as goal

pub returns : goal.returns
returns c s x = (no_groups-unique s x, unique-no_groups s x)
