use Rattle.std.proofs.Common.{◌≡◌, ◌++◌, ◌∷◌, [], take}
use Rattle.std.specs.List.{enumerate_from, flat_map}
use Rattle.table_files.proofs.numbers.numbered.Given as goal

abbrev pub invariant-loop-place : goal.invariant-loop-place
invariant-loop-place l = l.numbered.items ≡ [] ++ flat_map (λ one. one ∷ []) (take l.place (enumerate_from 1 l.tables))
