use Rattle.std.proofs.Common.{◌≡◌, ◌-◌}
use Rattle.std.specs.List.{filter, range_with_len}
use Rattle.first_rows.specs.Marked.{is_unmarked}
use Rattle.first_rows.proofs.first.unmarked.Given as goal

abbrev pub invariant-loop-number : goal.invariant-loop-number
invariant-loop-number l = l.rows.items ≡ filter (is_unmarked l.snapshot l.later) (range_with_len 1 (l.number - 1))
