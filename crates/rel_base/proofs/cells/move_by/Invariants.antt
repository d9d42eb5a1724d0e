use Rattle.std.proofs.Common.{◌≡◌, ◌+◌, ◌++◌, map, take, drop}
use Rattle.rel_base.proofs.cells.move_by.Given as goal

abbrev pub invariant-loop-end : goal.invariant-loop-end
invariant-loop-end l = l.ends ≡ map (λ end. l.start + end) (take l.end-index l.initial.ends) ++ drop l.end-index l.initial.ends
