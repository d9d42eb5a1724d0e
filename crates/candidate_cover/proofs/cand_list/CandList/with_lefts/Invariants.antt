use Rattle.candidate_cover.specs.Marks.{cands}
use Rattle.candidate_cover.proofs.Flat.{MarkedSoFar}
use Rattle.candidate_cover.proofs.cand_list.CandList.with_lefts.Given as goal

abbrev pub invariant-loop-x : goal.invariant-loop-x
invariant-loop-x l = MarkedSoFar (cands l.self) l.x-items l.x-index l.uptos.items l.helds.items
