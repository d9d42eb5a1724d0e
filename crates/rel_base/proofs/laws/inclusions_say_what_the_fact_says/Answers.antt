use Rattle.rel_base.proofs.Parts.{Included-tested, included-true}
use Rattle.rel_base.proofs.laws.inclusions_say_what_the_fact_says.Goals as goal

pub returns : goal.returns
returns c columns d e l m = (Included-tested columns d e l m, included-true columns d e)
