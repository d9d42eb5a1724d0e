use Rattle.std.proofs.Common.{◌≡◌, ◌++◌, map, take, drop}
use Rattle.candidate_cover.specs.Cands.{all_free}
use Rattle.candidate_cover.specs.Marks.{cands}
use Rattle.candidate_cover.proofs.candidate_cover.CandidateCover.free.Given as goal

abbrev pub invariant-loop-column : goal.invariant-loop-column
invariant-loop-column l = (cands l.self-inside.row_id ≡ all_free l.fn.self.row_id)
    × (map cands l.self-inside.columns.items ≡ map all_free (take l.column l.fn.self.columns) ++ drop l.column l.fn.self.columns)
