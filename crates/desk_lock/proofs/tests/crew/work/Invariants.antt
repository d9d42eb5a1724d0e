use Rattle.desk_lock.specs.Passes.{IsPassOf}
use Rattle.desk_lock.proofs.tests.crew.work.Given as goal

abbrev pub invariant-loop-amount : goal.invariant-loop-amount
invariant-loop-amount g l = IsPassOf l.desk l.pass
