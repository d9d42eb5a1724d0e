use Rattle.std.proofs.Common.{◌≡◌}
use Rattle.validator_tests.proofs.tests.compare_turns.Given as goal

abbrev pub invariant-loop-turn : goal.invariant-loop-turn
invariant-loop-turn g l = l.store ≡ l.sample.snapshot.value
