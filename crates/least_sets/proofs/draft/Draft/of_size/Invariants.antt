use Rattle.least_sets.proofs.draft.Draft.of_size.Given as goal

abbrev pub ghosts-uncovered_on_blank : goal.ghosts-uncovered_on_blank
ghosts-uncovered_on_blank a = record { name = a.blank.name; parts = a.blank.parts }
