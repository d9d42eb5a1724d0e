use Rattle.std.proofs.Common.{◌≡◌, ℕ, ◌+◌, ◌<◌, get_or, Less}
use Rattle.rel_base.specs.declared.dependency.Fd.{Fd}
use Rattle.rel_base.specs.Covers.{fd_cmp}
use Rattle.rel_base.proofs.dependency.are_rising.Given as goal

abbrev pub invariant-loop-place : goal.invariant-loop-place
invariant-loop-place l = (k : ℕ) (d : Fd) → k + 1 < l.place → fd_cmp (get_or l.fds k d) (get_or l.fds (k + 1) d) ≡ Less
