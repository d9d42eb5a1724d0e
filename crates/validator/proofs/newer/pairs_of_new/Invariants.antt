use Rattle.validator.proofs.NewRows.{NewSeen}
use Rattle.validator.proofs.newer.pairs_of_new.Given as goal

abbrev pub invariant-loop-row : goal.invariant-loop-row
invariant-loop-row g l = NewSeen l.snapshot l.asked.left l.asked.target l.asked.most l.row-items l.row-index l.pairs.items l.steps l.initial.steps
