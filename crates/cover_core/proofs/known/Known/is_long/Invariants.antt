use Rattle.std.proofs.Common.{◌<◌, ◌≤◌, ℕ, length}
use Rattle.col_set.specs.declared.target.Target.TheVariants.{Col, RowId}
use Rattle.candidate_cover.specs.Cands.{cands_of}
use Rattle.cover_core.proofs.known.Known.is_long.Given as goal

abbrev pub invariant-loop-column : goal.invariant-loop-column
invariant-loop-column l = (length (cands_of l.self.candidates RowId) ≤ l.most) × ((j : ℕ) → j < l.column → length (cands_of l.self.candidates (Col j)) ≤ l.most)
