use Rattle.synth_laws.proofs.Kept.{TablesKeep-synthesis}
use Rattle.synth_laws.proofs.laws.tables_keep_dependencies.Goals as goal

pub returns : goal.returns
returns c n fds low = TablesKeep-synthesis n fds low
