use Rattle.std.proofs.Common.{◌≡◌}
use Rattle.col_set.specs.ColSet.{upto}
use Rattle.cover_cert.proofs.comparing.numbers.Given as goal

abbrev pub invariant-loop-number : goal.invariant-loop-number
invariant-loop-number l = l.numbers.items ≡ upto l.number
