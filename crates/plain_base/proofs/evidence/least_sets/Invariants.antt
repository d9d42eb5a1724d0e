use Rattle.std.proofs.Common.{◌≡◌, take}
use Rattle.col_set.specs.Evidence.{least}
use Rattle.plain_base.proofs.evidence.least_sets.Given as goal

abbrev pub invariant-loop-z : goal.invariant-loop-z
invariant-loop-z l = l.candidates.items ≡ least l.columns (take l.z-index l.agree_sets) l.target
