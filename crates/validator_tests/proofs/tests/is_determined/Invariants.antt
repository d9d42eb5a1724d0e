use Rattle.validator_tests.proofs.tests.is_determined.Given as goal

abbrev pub ghosts-violations : goal.ghosts-violations
ghosts-violations g a = record { name = a.blank.name; parts = a.blank.parts }
