use Rattle.std.proofs.Common.{◌≡◌, take}
use Rattle.col_set.specs.Evidence.{replaced}
use Rattle.plain_base.proofs.evidence.grown.Given as goal

abbrev pub invariant-loop-x : goal.invariant-loop-x
invariant-loop-x l = l.sets.items ≡ replaced l.columns l.target l.z (take l.x-index l.candidates)
