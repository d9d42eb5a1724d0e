use Rattle.std.proofs.Common.{◌≡◌, ◌++◌, map, take}
use Rattle.approx_fd.specs.declared.found.NearKey.{NearKey}
use Rattle.approx_fd.proofs.approximate.push_all.Given as goal

abbrev pub invariant-loop-one : goal.invariant-loop-one
invariant-loop-one l = l.found.items ≡ l.initial.found.items ++ map (λ (k : NearKey). record { fd = record { left = k.columns; right = l.column }; removed = k.removed }) (take l.one-index l.lefts)
