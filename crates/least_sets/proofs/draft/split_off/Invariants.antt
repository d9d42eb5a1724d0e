use Rattle.std.proofs.Common.{◌-◌, length}
use Rattle.least_sets.proofs.Splitting.{SplitSoFar}
use Rattle.least_sets.proofs.draft.split_off.Given as goal

abbrev pub invariant-loop-place : goal.invariant-loop-place
invariant-loop-place l = SplitSoFar l.z l.fn.sets.items l.sets.items l.inner.items l.nearby.items l.place

abbrev pub decreases-loop-place : goal.decreases-loop-place
decreases-loop-place l = length l.sets.items - l.place
