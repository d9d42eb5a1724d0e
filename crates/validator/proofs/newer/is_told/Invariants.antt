use Rattle.std.proofs.Common.{◌≡◌, ◌<◌, ℕ, false, get_or}
use Rattle.stripped_partition.specs.Stripped.{agree_on}
use Rattle.validator.proofs.newer.is_told.Given as goal

abbrev pub invariant-loop-pair : goal.invariant-loop-pair
invariant-loop-pair l = (k : ℕ) (d : ℕ × ℕ) → k < l.pair-index → agree_on l.snapshot l.columns (get_or l.pairs k d).0 l.row ≡ false
