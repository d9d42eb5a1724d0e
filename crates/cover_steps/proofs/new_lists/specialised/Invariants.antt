use Rattle.std.proofs.Common.{ℕ, List, [], ◌∷◌, ◌++◌}
use Rattle.candidate_cover.specs.Cands.{width, AreLeast}
use Rattle.negative_cover.specs.Concerning.{AreConcerned}
use Rattle.cover_steps.proofs.Putting.{AreNewListsSoFar}
use Rattle.cover_steps.proofs.new_lists.specialised.Given as goal

abbrev pub invariant-loop-column : goal.invariant-loop-column
invariant-loop-column l = (ws : List ℕ) → AreLeast (width l.candidates) ws l.candidates → AreConcerned (width l.candidates) ws l.agree l.concerned → AreNewListsSoFar (width l.candidates) (ws ++ l.agree ∷ []) l.candidates l.row_id l.columns.items l.column
