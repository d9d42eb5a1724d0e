use Rattle.lossless_join.proofs.Projected.{ProjectionHolds-tested, projection_holds-true, IsProjectionKey-listed, listed-IsProjectionKey}
use Rattle.lossless_join.proofs.laws.tests_in_projections_say_what_the_facts_say.Goals as goal

pub returns : goal.returns
returns c = λ r s is. record {
  dependency = λ x t. (ProjectionHolds-tested r s x t, projection_holds-true r s x t);
  key = λ x b. (IsProjectionKey-listed r s x b, listed-IsProjectionKey r s x b);
}
