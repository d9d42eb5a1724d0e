use Rattle.validator.proofs.Chained.{Walking}
use Rattle.validator.proofs.chain.partner.Given as goal

abbrev pub invariant-loop-number : goal.invariant-loop-number
invariant-loop-number l = Walking l.snapshot l.columns l.fn.column l.row l.number

abbrev pub decreases-loop-number : goal.decreases-loop-number
decreases-loop-number l = l.number
