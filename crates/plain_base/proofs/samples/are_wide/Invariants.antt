use Rattle.std.proofs.Common.{◌≡◌, ◌<◌, ℕ, length, get_or}
use Rattle.rel_base.specs.Cells.{Row}
use Rattle.plain_base.proofs.samples.are_wide.Given as goal

abbrev pub invariant-loop-row : goal.invariant-loop-row
invariant-loop-row l = (k : ℕ) (d : Row) → k < l.row-index → length (get_or l.rows k d) ≡ l.width
