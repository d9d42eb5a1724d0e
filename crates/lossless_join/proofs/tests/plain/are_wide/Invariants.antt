use Rattle.std.proofs.Common.{◌<◌, ◌^◌, length, take}
use Rattle.std.specs.List.{All}
use Rattle.lossless_join.proofs.tests.plain.are_wide.Given as goal

abbrev pub invariant-loop-row : goal.invariant-loop-row
invariant-loop-row l = All (λ row. l.columns < 2 ^ length row) (take l.row-index l.rows)
