use Rattle.candidate_cover.specs.Cands.{width}
use Rattle.cover_steps.proofs.Putting.{AreNewListsSoFar}
use Rattle.cover_steps.proofs.new_lists.generalised.Given as goal

abbrev pub invariant-loop-column : goal.invariant-loop-column
invariant-loop-column g l = AreNewListsSoFar (width l.candidates) l.rest l.candidates l.row_id l.columns.items l.column
