use Rattle.synth_laws.proofs.Joining.{TablesJoin-synthesis}
use Rattle.synth_laws.proofs.laws.tables_join_to_the_distinct_rows.Goals as goal

pub returns : goal.returns
returns c r fds is equal held = TablesJoin-synthesis r is equal fds held
