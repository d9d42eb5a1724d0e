use Rattle.validator.proofs.Leads.{Walked}
use Rattle.validator.proofs.walk.pair_in.Given as goal

abbrev pub invariant-loop-row : goal.invariant-loop-row
invariant-loop-row g l = Walked l.snapshot l.question.by l.target l.from l.group l.row-index l.slots.items l.steps l.initial.steps
