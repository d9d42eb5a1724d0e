use Rattle.std.proofs.Common.{◌≡◌, ◌++◌, filter}
use Rattle.col_set.specs.ColSet.{upto}
use Rattle.inclusion_merge.specs.Candidates.{is_left, pairs_from}
use Rattle.inclusion_merge.proofs.pairs.push_pairs_of.Given as goal

abbrev pub invariant-loop-referenced : goal.invariant-loop-referenced
invariant-loop-referenced l = l.pairs.items ≡ l.initial.pairs.items ++ filter (is_left l.kept) (pairs_from l.dependent (upto l.referenced))
