use Rattle.std.proofs.Common.{◌≡◌, not, ℕ, false, filter, slice_index_or, take}
use Rattle.inclusion_merge.proofs.open.unsettled.Given as goal

abbrev pub invariant-loop-pair : goal.invariant-loop-pair
invariant-loop-pair l = l.left.items ≡ filter (λ (p : ℕ × ℕ). not (slice_index_or l.settled p.0 false)) (take l.pair-index l.pairs)
