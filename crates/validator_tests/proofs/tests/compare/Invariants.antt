use Rattle.validator_tests.proofs.tests.compare.Given as goal

abbrev pub ghosts-answered : goal.ghosts-answered
ghosts-answered g a = record { name = a.blank.name; parts = a.blank.parts }
