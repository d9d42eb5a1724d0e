use Rattle.std.proofs.Common.{◌≡◌, length, take}
use Rattle.std.specs.List.{All}
use Rattle.col_set.specs.ColSet.{size}
use Rattle.lossless_join.proofs.tests.plain.are_parts.Given as goal

abbrev pub invariant-loop-row : goal.invariant-loop-row
invariant-loop-row l = All (λ row. length row ≡ size l.columns) (take l.row-index l.rows)
