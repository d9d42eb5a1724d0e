use Rattle.std.proofs.Common.{◌≡◌, ◌++◌, filter}
use Rattle.col_set.specs.ColSet.{upto}
use Rattle.rel_base.specs.Inclusion.{included}
use Rattle.plain_base.proofs.Included.{pairs_from}
use Rattle.plain_base.proofs.inclusion.push_inclusions.Given as goal

abbrev pub invariant-loop-referenced : goal.invariant-loop-referenced
invariant-loop-referenced l = l.pairs.items ≡ l.fn.pairs.items ++ filter (λ p. included l.columns p.0 p.1) (pairs_from l.dependent (upto l.referenced))
