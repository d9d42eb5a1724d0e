use Rattle.rel_base.proofs.Shown.{HoldsIn-tested, holds_in-true, HoldsInBelow-tested, holds_in_below-true}
use Rattle.rel_base.proofs.laws.snapshot_tests_say_what_the_facts_say.Goals as goal

pub returns : goal.returns
returns c s = record {
  dependency = λ x t. (HoldsIn-tested s x t, holds_in-true s x t);
  among = λ b x t. (HoldsInBelow-tested s b x t, holds_in_below-true s b x t);
}
