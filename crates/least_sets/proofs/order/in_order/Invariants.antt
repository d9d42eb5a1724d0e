use Rattle.least_sets.proofs.Firsts.{MadeSoFar}
use Rattle.least_sets.proofs.order.in_order.Given as goal

abbrev pub invariant-loop-list : goal.invariant-loop-list
invariant-loop-list l = MadeSoFar l.fn.sets.items l.list-index l.made.items
