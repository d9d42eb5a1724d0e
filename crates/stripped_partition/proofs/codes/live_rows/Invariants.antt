use Rattle.std.proofs.Common.{◌≡◌, ◌-◌}
use Rattle.std.specs.List.{filter, range_with_len}
use Rattle.rel_base.specs.CodeTable.{live_at}
use Rattle.stripped_partition.proofs.codes.live_rows.Given as goal

abbrev pub invariant-loop-number : goal.invariant-loop-number
invariant-loop-number l = l.rows.items ≡ filter (live_at l.snapshot) (range_with_len 1 (l.number - 1))
