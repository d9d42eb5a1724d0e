use Rattle.std.proofs.Common.{◌≡◌, ◌++◌, ◌-◌, map, take, get_or}
use Rattle.rel_base.specs.LentCodes.{lent}
use Rattle.stripped_partition.proofs.codes.gather.Given as goal

abbrev pub invariant-loop-k : goal.invariant-loop-k
invariant-loop-k l = take l.k l.codes ≡ map (λ row. get_or (lent l.shared ++ l.own) (row - 1) 0) (take l.k l.rows)
