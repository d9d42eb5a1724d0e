use Rattle.synth_laws.proofs.Kept.{TablesReach-synthesis}
use Rattle.synth_laws.proofs.laws.keys_reach_their_tables.Goals as goal

pub returns : goal.returns
returns c n fds = TablesReach-synthesis n fds
