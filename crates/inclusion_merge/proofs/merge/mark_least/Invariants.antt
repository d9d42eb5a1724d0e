use Rattle.inclusion_merge.specs.WideSet.{has_wide}
use Rattle.inclusion_merge.specs.Sharing.{LeastSoFar, lists_of}
use Rattle.inclusion_merge.proofs.merge.mark_least.Given as goal

abbrev pub invariant-loop-place : goal.invariant-loop-place
invariant-loop-place l = LeastSoFar l.least (has_wide l.shared) (lists_of l.rests) l.place
