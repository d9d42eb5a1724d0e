use Rattle.std.proofs.Common.{◌≡◌, false, take}
use Rattle.std.specs.List.{list_any}
use Rattle.col_set.specs.ColSet.{inter, subset}
use Rattle.least_sets.proofs.frames.is_inside.Given as goal

abbrev pub invariant-loop-v : goal.invariant-loop-v
invariant-loop-v g l = list_any (λ v. subset (inter l.fn.w l.fn.free) v) (take l.v-index l.others) ≡ false
