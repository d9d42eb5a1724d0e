use Rattle.rel_base.proofs.Alike.{alike-itself, alike-turned, alike-trans}
use Rattle.rel_base.proofs.laws.to_be_alike_is_an_equivalence.Goals as goal

pub returns : goal.returns
returns c = record { itself = alike-itself; turned = alike-turned; trans = alike-trans }
