use Rattle.least_sets.proofs.least.least_sets.Given as goal

abbrev pub ghosts-least_on_blank : goal.ghosts-least_on_blank
ghosts-least_on_blank a = record { name = a.blank.name; parts = a.blank.parts }
