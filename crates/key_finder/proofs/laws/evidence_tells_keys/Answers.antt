use Rattle.key_finder.proofs.Tells.{Evidence-tells}
use Rattle.key_finder.proofs.laws.evidence_tells_keys.Goals as goal

pub returns : goal.returns
returns c = Evidence-tells
