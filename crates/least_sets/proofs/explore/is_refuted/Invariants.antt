use Rattle.std.proofs.Common.{◌≡◌, false, take}
use Rattle.col_set.specs.Evidence.{refuted}
use Rattle.least_sets.proofs.explore.is_refuted.Given as goal

abbrev pub invariant-loop-w : goal.invariant-loop-w
invariant-loop-w g l = refuted (take l.w-index l.agree_sets) l.target l.x ≡ false
