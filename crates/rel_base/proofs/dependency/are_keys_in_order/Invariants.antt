use Rattle.std.proofs.Common.{◌≡◌, ℕ, ◌+◌, ◌<◌, get_or, Less}
use Rattle.col_set.specs.ColSet.{report_cmp}
use Rattle.rel_base.proofs.dependency.are_keys_in_order.Given as goal

abbrev pub invariant-loop-place : goal.invariant-loop-place
invariant-loop-place l = (k : ℕ) (d : ℕ) → k + 1 < l.place → report_cmp (get_or l.keys k d) (get_or l.keys (k + 1) d) ≡ Less
