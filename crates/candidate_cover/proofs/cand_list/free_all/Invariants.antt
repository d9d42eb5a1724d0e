use Rattle.std.proofs.Common.{◌≡◌, ◌++◌, take, drop, map, false}
use Rattle.candidate_cover.proofs.cand_list.free_all.Given as goal

abbrev pub invariant-loop-place : goal.invariant-loop-place
invariant-loop-place l = l.helds.items ≡ map (λ h. false) (take l.place l.fn.helds.items) ++ drop l.place l.fn.helds.items
