use Rattle.std.proofs.Common.{◌≡◌, Bool}
use Rattle.candidate_cover.specs.declared.cand.Cand.{Cand}
use Rattle.cover_core.proofs.Back.{NoneSoFar}
use Rattle.cover_core.proofs.searching.move_back.Given as goal

abbrev pub invariant-loop-column : goal.invariant-loop-column
invariant-loop-column g l = (l.cursor ≡ l.fn.cursor) × ((p : Cand → Bool) → ((c : Cand) (b : Bool) → goal.F-post g l.test c b → b ≡ p c) → NoneSoFar p l.candidates l.concerned l.column)
