use Rattle.std.proofs.Common.{◌≡◌, ◌-◌, ◌++◌, map, replicate, take}
use Rattle.nary_ind.specs.Tables.{number_in}
use Rattle.nary_ind.proofs.table.Table.key.Given as goal

abbrev pub invariant-loop-place : goal.invariant-loop-place
invariant-loop-place l = l.key ≡ map (λ c. number_in l.self c l.row) (take l.place l.columns) ++ replicate (4 - l.place) 0
