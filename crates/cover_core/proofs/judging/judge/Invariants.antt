use Rattle.cover_core.proofs.judging.judge.Given as goal

abbrev pub ghosts-violations : goal.ghosts-violations
ghosts-violations a = record { name = a.blank.name; parts = a.blank.parts }
