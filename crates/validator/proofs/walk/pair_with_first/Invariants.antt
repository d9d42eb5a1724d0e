use Rattle.validator.proofs.WithFirst.{WithFirst}
use Rattle.validator.proofs.walk.pair_with_first.Given as goal

abbrev pub invariant-loop-k : goal.invariant-loop-k
invariant-loop-k g l = WithFirst l.snapshot l.target l.from l.group l.k l.steps l.initial.steps
