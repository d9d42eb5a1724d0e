use Rattle.std.proofs.Common.{◌≡◌, ℕ, ◌<◌, ◌≤◌, get_or, false}
use Rattle.rel_base.specs.declared.dependency.Fd.{Fd}
use Rattle.fd_closure.proofs.Grouping.{is_inside}
use Rattle.fd_closure.proofs.group.has_short_left_inside.Given as goal

abbrev pub invariant-loop-k : goal.invariant-loop-k
invariant-loop-k l = (j : ℕ) (fd : Fd) → l.start ≤ j → j < l.k → fd ≡ get_or l.fds j fd → is_inside l.x l.column fd ≡ false
