use Rattle.std.proofs.Common.{◌≡◌, Bool, drop}
use Rattle.std.specs.List.{find}
use Rattle.candidate_cover.specs.declared.cand.Cand.{Cand}
use Rattle.candidate_cover.specs.Marks.{cands}
use Rattle.candidate_cover.specs.Pairs.{pairs_of}
use Rattle.candidate_cover.proofs.cand_list.first_in.Given as goal

abbrev pub invariant-loop-place : goal.invariant-loop-place
invariant-loop-place g l = (p : Cand → Bool) → ((c : Cand) (b : Bool) → goal.F-post g l.test c b → b ≡ p c) → find p (drop l.start (cands (pairs_of l.sets l.uptos l.helds))) ≡ find p (drop l.place (cands (pairs_of l.sets l.uptos l.helds)))
