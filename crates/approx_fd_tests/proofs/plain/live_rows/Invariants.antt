use Rattle.std.proofs.Common.{◌≡◌}
use Rattle.std.specs.List.{filter, range_with_len}
use Rattle.rel_base.specs.CodeTable.{live_at}
use Rattle.approx_fd_tests.proofs.plain.live_rows.Given as goal

abbrev pub invariant-loop-place : goal.invariant-loop-place
invariant-loop-place l = l.rows.items ≡ filter (live_at l.snapshot) (range_with_len 1 l.place)
