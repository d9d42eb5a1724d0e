use Rattle.lossless_join.proofs.Projected.{unique-determines, determines-unique}
use Rattle.lossless_join.proofs.laws.projections_are_unique_by_what_determines_all.Goals as goal

pub returns : goal.returns
returns c = λ r s x is equal bound inside. (unique-determines r is equal s x bound inside, determines-unique r is equal s x bound inside)
