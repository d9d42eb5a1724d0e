use Rattle.std.proofs.Common.{◌≡◌, map, take}
use Rattle.candidate_cover.specs.AllMarked.{refreshed}
use Rattle.candidate_cover.specs.Marks.{cands}
use Rattle.candidate_cover.proofs.candidate_cover.CandidateCover.refreshed.Given as goal

abbrev pub invariant-loop-list : goal.invariant-loop-list
invariant-loop-list l = map cands l.columns.items ≡ map refreshed (map cands (take l.list-index l.list-items))
