use Rattle.std.proofs.Common.{◌≡◌, ◌++◌, take, drop, map, max}
use Rattle.candidate_cover.proofs.cand_list.raise_all.Given as goal

abbrev pub invariant-loop-place : goal.invariant-loop-place
invariant-loop-place l = l.uptos.items ≡ map (λ u. max u l.to) (take l.place l.fn.uptos.items) ++ drop l.place l.fn.uptos.items
