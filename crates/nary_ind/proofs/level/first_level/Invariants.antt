use Rattle.std.proofs.Common.{◌≡◌, [], length, map}
use Rattle.col_set.specs.ColSet.{upto}
use Rattle.nary_ind.specs.Levels.{grouped}
use Rattle.nary_ind.proofs.level.first_level.Given as goal

abbrev pub invariant-loop-relation : goal.invariant-loop-relation
invariant-loop-relation l = map grouped l.level.items ≡ map (λ p. (record { rel = p; columns = [] }, map (λ q. record { rel = q; columns = [] }) (upto (length l.known)))) (upto l.relation)
