use Rattle.desk_lock.specs.Passes.{IsPassOf}
use Rattle.desk_lock.proofs.tests.handing.fetch.Given as goal

abbrev pub invariant-loop : goal.invariant-loop
invariant-loop g l = IsPassOf l.desk l.pass
