use Rattle.validator.proofs.NewRows.{Gathering}
use Rattle.validator.proofs.newer.rows_from.Given as goal

abbrev pub invariant-loop-number : goal.invariant-loop-number
invariant-loop-number l = Gathering l.snapshot l.fn.from l.number l.rows.items
