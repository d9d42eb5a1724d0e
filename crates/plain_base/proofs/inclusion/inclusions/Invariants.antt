use Rattle.std.proofs.Common.{◌≡◌, filter, flat_map, length}
use Rattle.col_set.specs.ColSet.{upto}
use Rattle.rel_base.specs.Inclusion.{included}
use Rattle.plain_base.proofs.Included.{pairs_from}
use Rattle.plain_base.proofs.inclusion.inclusions.Given as goal

abbrev pub invariant-loop-dependent : goal.invariant-loop-dependent
invariant-loop-dependent l = l.pairs.items ≡ filter (λ p. included l.columns p.0 p.1) (flat_map (λ c. pairs_from c (upto (length l.columns))) (upto l.dependent))
