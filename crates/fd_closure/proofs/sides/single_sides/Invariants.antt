use Rattle.std.proofs.Common.{take}
use Rattle.fd_closure.specs.Closure.{Tells}
use Rattle.fd_closure.proofs.sides.single_sides.Given as goal

abbrev pub invariant-loop-fd : goal.invariant-loop-fd
invariant-loop-fd l = Tells (take l.fd-index l.fd-items) l.sides.items
