use Rattle.std.proofs.Common.{◌≡◌, take}
use Rattle.candidate_cover.specs.Marks.{cands}
use Rattle.candidate_cover.proofs.cand_list.CandList.list.Given as goal

abbrev pub invariant-loop-place : goal.invariant-loop-place
invariant-loop-place l = l.list.items ≡ take l.place (cands l.self)
