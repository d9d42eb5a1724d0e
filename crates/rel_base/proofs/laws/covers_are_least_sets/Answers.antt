use Rattle.rel_base.proofs.Minima.{covers-least}
use Rattle.rel_base.proofs.laws.covers_are_least_sets.Goals as goal

pub returns : goal.returns
returns c = covers-least
