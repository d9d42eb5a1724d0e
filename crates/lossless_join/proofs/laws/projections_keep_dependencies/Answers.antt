use Rattle.lossless_join.proofs.Projected.{projection_holds-rows}
use Rattle.lossless_join.proofs.laws.projections_keep_dependencies.Goals as goal

pub returns : goal.returns
returns c = λ r s x a is equal bound inside h. projection_holds-rows r is equal s x bound inside a h
