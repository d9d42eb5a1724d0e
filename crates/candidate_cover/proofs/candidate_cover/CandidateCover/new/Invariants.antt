use Rattle.std.proofs.Common.{◌≡◌, ◌∷◌, [], map, replicate}
use Rattle.candidate_cover.specs.Cands.{fresh}
use Rattle.candidate_cover.specs.Marks.{cands}
use Rattle.candidate_cover.proofs.candidate_cover.CandidateCover.new.Given as goal

abbrev pub invariant-loop-column : goal.invariant-loop-column
invariant-loop-column l = map cands l.lists.items ≡ replicate l.column (fresh 0 ∷ [])
