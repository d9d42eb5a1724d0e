use Rattle.std.proofs.Common.{◌≡◌, ◌++◌, map, take, drop}
use Rattle.candidate_cover.specs.AllMarked.{all_marked}
use Rattle.candidate_cover.specs.Marks.{cands}
use Rattle.candidate_cover.proofs.candidate_cover.CandidateCover.mark_all.Given as goal

abbrev pub invariant-loop-place : goal.invariant-loop-place
invariant-loop-place l = (cands l.self-inside.row_id ≡ all_marked l.to l.fn.self.row_id)
    × (map cands l.self-inside.columns.items ≡ map (all_marked l.to) (take l.place l.fn.self.columns) ++ drop l.place l.fn.self.columns)
