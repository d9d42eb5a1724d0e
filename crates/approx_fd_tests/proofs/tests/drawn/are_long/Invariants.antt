use Rattle.std.proofs.Common.{◌≡◌, ◌<◌, ◌+◌, ℕ, List, length, get_or}
use Rattle.approx_fd_tests.proofs.tests.drawn.are_long.Given as goal

abbrev pub invariant-loop-list : goal.invariant-loop-list
invariant-loop-list l = (k : ℕ) (d : List ℕ) → k < l.list-index → length (get_or l.codes k d) + 1 ≡ l.count + 1
