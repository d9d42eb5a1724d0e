use Rattle.validator.proofs.Soundness.{Seen}
use Rattle.validator.proofs.walk.pairs_in_groups.Given as goal

abbrev pub invariant-loop-k : goal.invariant-loop-k
invariant-loop-k g l = Seen l.snapshot l.question.by l.question.target l.question.from l.question.most l.partition l.k l.pairs.items l.slots.items l.steps l.initial.steps
