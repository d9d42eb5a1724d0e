use Rattle.synth_laws.proofs.CoversReach.{CoversAreHeld-covers, CoversAreReduced-covers}
use Rattle.synth_laws.proofs.laws.minimal_dependencies_hold_and_are_reduced.Goals as goal

pub returns-clause-held : goal.returns-clause-held
returns-clause-held c r = CoversAreHeld-covers r

pub returns-clause-reduced : goal.returns-clause-reduced
returns-clause-reduced c r = CoversAreReduced-covers r
