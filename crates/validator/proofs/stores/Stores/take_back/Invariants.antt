use Rattle.validator.specs.Stores.{AreOf}
use Rattle.validator.proofs.stores.Stores.take_back.Given as goal

abbrev pub invariant-loop-place : goal.invariant-loop-place
invariant-loop-place l = AreOf l.snapshot.value l.self
