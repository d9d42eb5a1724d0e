use Rattle.std.proofs.Common.{drop}
use Rattle.validator.specs.Walk.{IsClearBut}
use Rattle.validator.proofs.walk.clear.Given as goal

abbrev pub invariant-loop-row : goal.invariant-loop-row
invariant-loop-row l = IsClearBut l.snapshot l.fn.by (drop l.row-index l.group) l.slots
