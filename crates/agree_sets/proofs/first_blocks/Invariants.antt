use Rattle.std.proofs.Common.{◌≡◌, ◌*◌, take}
use Rattle.agree_sets.specs.Agreement.{agreement_bits}
use Rattle.agree_sets.proofs.first_blocks.Given as goal

abbrev pub invariant-loop-k : goal.invariant-loop-k
invariant-loop-k l = l.bits ≡ agreement_bits (take (16 * l.k) l.a) (take (16 * l.k) l.b)
