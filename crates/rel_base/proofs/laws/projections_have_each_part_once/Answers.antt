use Rattle.rel_base.proofs.Parts.{ProjectionMeans-projection}
use Rattle.rel_base.proofs.laws.projections_have_each_part_once.Goals as goal

pub returns : goal.returns
returns c = ProjectionMeans-projection
