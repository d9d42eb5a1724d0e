use Rattle.rel_base.proofs.States.{live_climbs}
use Rattle.fd_closure.proofs.Telling.{KeyMeans-table_key}
use Rattle.fd_closure.proofs.laws.keys_determine_their_tables.Goals as goal

pub returns : goal.returns
returns c r s is b = KeyMeans-table_key r s (live_climbs r is) b
