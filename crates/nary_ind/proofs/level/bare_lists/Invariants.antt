use Rattle.std.proofs.Common.{◌≡◌, [], map}
use Rattle.col_set.specs.ColSet.{upto}
use Rattle.nary_ind.proofs.level.bare_lists.Given as goal

abbrev pub invariant-loop-relation : goal.invariant-loop-relation
invariant-loop-relation l = l.lists.items ≡ map (λ p. record { rel = p; columns = [] }) (upto l.relation)
