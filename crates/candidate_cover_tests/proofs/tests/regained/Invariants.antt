use Rattle.candidate_cover_tests.proofs.tests.regained.Given as goal

abbrev pub ghosts-generalised : goal.ghosts-generalised
ghosts-generalised a = record { name = a.blank.name; parts = a.blank.parts }
