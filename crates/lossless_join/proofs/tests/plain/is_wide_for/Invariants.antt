use Rattle.std.proofs.Common.{◌<◌, ◌^◌, length, take}
use Rattle.std.specs.List.{All}
use Rattle.lossless_join.proofs.tests.plain.is_wide_for.Given as goal

abbrev pub invariant-loop-table : goal.invariant-loop-table
invariant-loop-table l = All (λ table. table.columns < 2 ^ length l.row) (take l.table-index l.tables)
