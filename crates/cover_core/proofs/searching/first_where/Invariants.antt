use Rattle.std.proofs.Common.{◌≡◌, Bool, ℕ, ◌<◌, None}
use Rattle.std.specs.List.{find}
use Rattle.col_set.specs.declared.target.Target.TheVariants.{Col, RowId}
use Rattle.candidate_cover.specs.Cands.{cands_of}
use Rattle.candidate_cover.specs.declared.cand.Cand.{Cand}
use Rattle.cover_core.specs.Past.{IsPast}
use Rattle.cover_core.proofs.searching.first_where.Given as goal

abbrev pub invariant-loop-column : goal.invariant-loop-column
invariant-loop-column g l = (l.cursor ≡ l.fn.cursor) × ((p : Cand → Bool) → ((c : Cand) (b : Bool) → goal.F-post g l.test c b → b ≡ p c) → IsPast p l.candidates l.fn.cursor → (find p (cands_of l.candidates RowId) ≡ None) × ((j : ℕ) → j < l.column → find p (cands_of l.candidates (Col j)) ≡ None))
