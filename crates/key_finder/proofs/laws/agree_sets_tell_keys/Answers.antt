use Rattle.key_finder.proofs.Tells.{AgreeSets-tell}
use Rattle.key_finder.proofs.laws.agree_sets_tell_keys.Goals as goal

pub returns : goal.returns
returns c = AgreeSets-tell
