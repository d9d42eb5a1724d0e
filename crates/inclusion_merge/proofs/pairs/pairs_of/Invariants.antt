use Rattle.std.proofs.Common.{◌≡◌, filter}
use Rattle.inclusion_merge.specs.Candidates.{is_left, pairs_among}
use Rattle.inclusion_merge.proofs.pairs.pairs_of.Given as goal

abbrev pub invariant-loop-dependent : goal.invariant-loop-dependent
invariant-loop-dependent l = l.pairs.items ≡ filter (is_left l.kept) (pairs_among l.kept.columns l.dependent)
