use Rattle.std.proofs.Common.{◌≡◌, ◌<◌, ℕ, length, get_or, take, cond}
use Rattle.stripped_partition.proofs.Coding.{has_row}
use Rattle.stripped_partition.proofs.codes.mark.Given as goal

abbrev pub invariant-loop-row : goal.invariant-loop-row
invariant-loop-row l = (i : ℕ) → i < length l.table → get_or l.table i 0 ≡ cond (has_row (take l.row-index l.rows) i) l.place (get_or l.initial.table i 0)
