use Rattle.validator.specs.Stores.{AreOf}
use Rattle.validator.proofs.stores.Stores.spread.Given as goal

abbrev pub invariant-loop : goal.invariant-loop
invariant-loop l = AreOf l.fn.self.own l.self
