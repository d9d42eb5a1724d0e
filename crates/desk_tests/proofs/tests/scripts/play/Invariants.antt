use Rattle.desk_tests.specs.Tests.{AreReady}
use Rattle.desk_tests.proofs.tests.scripts.play.Given as goal

abbrev pub invariant-loop-place : goal.invariant-loop-place
invariant-loop-place g l = AreReady l.desk l.party.feeder.pass l.party.worker.pass l.party.left l.party.jobs.items
