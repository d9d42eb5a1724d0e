use Rattle.inclusion_merge.specs.Sharing.{lists_of}
use Rattle.inclusion_merge.proofs.Spent.{Spent}
use Rattle.inclusion_merge.proofs.merge.drop_spent.Given as goal

abbrev pub invariant-loop-place : goal.invariant-loop-place
invariant-loop-place l = Spent l.kept (lists_of l.initial.rests) (lists_of l.rests) l.place
