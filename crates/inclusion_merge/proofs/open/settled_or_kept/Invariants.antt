use Rattle.std.proofs.Common.{◌≡◌, ◌||◌, ℕ, false, filter, slice_index_or, take}
use Rattle.inclusion_merge.specs.Candidates.{may}
use Rattle.inclusion_merge.proofs.open.settled_or_kept.Given as goal

abbrev pub invariant-loop-pair : goal.invariant-loop-pair
invariant-loop-pair l = l.both.items ≡ filter (λ (p : ℕ × ℕ). slice_index_or l.settled p.0 false || may l.kept p.0 p.1) (take l.pair-index l.pairs)
