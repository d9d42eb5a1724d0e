use Rattle.std.proofs.Common.{◌≡◌}
use Rattle.validator_tests.proofs.tests.compare_targets.Given as goal

abbrev pub invariant-loop-place : goal.invariant-loop-place
invariant-loop-place g l = l.store ≡ l.sample.snapshot.value
