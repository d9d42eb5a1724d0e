use Rattle.cover_core.proofs.tests.new_rows.judged_after.Given as goal

abbrev pub ghosts-judge_drawn : goal.ghosts-judge_drawn
ghosts-judge_drawn g a = record { name = a.blank.name; parts = a.blank.parts }
