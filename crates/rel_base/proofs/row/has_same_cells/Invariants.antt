use Rattle.std.proofs.Common.{◌≡◌, ◌<◌, ℕ, get_or, length, []}
use Rattle.rel_base.proofs.row.has_same_cells.Given as goal

abbrev pub invariant-loop-place : goal.invariant-loop-place
invariant-loop-place l = (length l.one ≡ length l.other) × ((k : ℕ) → k < l.place → get_or l.one k [] ≡ get_or l.other k [])
