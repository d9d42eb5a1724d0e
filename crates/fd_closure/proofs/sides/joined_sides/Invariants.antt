use Rattle.std.proofs.Common.{◌≡◌, take, ℕ}
use Rattle.fd_closure.specs.Closure.{has_right_inside}
use Rattle.fd_closure.proofs.sides.joined_sides.Given as goal

abbrev pub invariant-loop-side : goal.invariant-loop-side
invariant-loop-side l = (x a : ℕ) → has_right_inside l.sides.items x a ≡ has_right_inside (take l.side-index l.single) x a
