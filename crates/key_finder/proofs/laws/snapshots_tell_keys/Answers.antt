use Rattle.key_finder.proofs.Tells.{Snapshots-tell}
use Rattle.key_finder.proofs.laws.snapshots_tell_keys.Goals as goal

pub returns : goal.returns
returns c = Snapshots-tell
