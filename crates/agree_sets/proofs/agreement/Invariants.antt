use Rattle.std.proofs.Common.{◌≡◌, ◌*◌, take}
use Rattle.agree_sets.specs.Agreement.{agreement_bits}
use Rattle.agree_sets.proofs.agreement.Given as goal

abbrev pub invariant-fours : goal.invariant-fours
invariant-fours l = l.bits ≡ agreement_bits (take (4 * l.k) l.a) (take (4 * l.k) l.b)

abbrev pub invariant-rest : goal.invariant-rest
invariant-rest l = l.bits ≡ agreement_bits (take l.k l.a) (take l.k l.b)
