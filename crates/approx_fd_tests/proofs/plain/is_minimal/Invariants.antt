use Rattle.std.proofs.Common.{◌≡◌, ◌<◌, ◌&&◌, ℕ, false, leb}
use Rattle.col_set.specs.Minimal.{proper_subset}
use Rattle.approx_fd.specs.Removal.{removed_in}
use Rattle.approx_fd_tests.proofs.plain.is_minimal.Given as goal

abbrev pub invariant-loop-bits : goal.invariant-loop-bits
invariant-loop-bits l = (y : ℕ) → y < l.bits → (proper_subset y l.columns && leb (removed_in l.snapshot y l.target) l.most) ≡ false
