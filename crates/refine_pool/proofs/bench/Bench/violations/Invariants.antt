use Rattle.refine_pool.proofs.bench.Bench.violations.Given as goal

abbrev pub ghosts-violations_on : goal.ghosts-violations_on
ghosts-violations_on a = record { name = a.blank.name; parts = a.blank.parts }
