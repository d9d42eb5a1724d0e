use Rattle.std.proofs.Common.{◌≡◌, map, take}
use Rattle.rel_base.specs.RowState.{row}
use Rattle.plain_base.proofs.plain_rows.PlainRows.live_rows.Given as goal

abbrev pub invariant-loop-number : goal.invariant-loop-number
invariant-loop-number l = l.rows.items ≡ map (row l.self) (take l.number-index l.number-items)
