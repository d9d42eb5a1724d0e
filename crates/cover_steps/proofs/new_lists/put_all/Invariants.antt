use Rattle.cover_steps.proofs.Putting.{IsPutSoFar}
use Rattle.cover_steps.proofs.new_lists.put_all.Given as goal

abbrev pub invariant-loop-new_list : goal.invariant-loop-new_list
invariant-loop-new_list l = IsPutSoFar l.fn.candidates l.fn.new_lists.row_id l.fn.new_lists.columns.items l.columns.items l.candidates

abbrev pub decreases-loop-new_list : goal.decreases-loop-new_list
decreases-loop-new_list l = goal.left-loop-new_list l
