use Rattle.std.proofs.Common.{◌≡◌, ◌<◌, ℕ, [], length, get_or}
use Rattle.rel_base.proofs.relation.Relation.without_rows.Given as goal

abbrev pub invariant-loop-place : goal.invariant-loop-place
invariant-loop-place l = (length l.columns.items ≡ l._place) × ((j : ℕ) → j < l._place → get_or l.columns.items j [] ≡ [])
