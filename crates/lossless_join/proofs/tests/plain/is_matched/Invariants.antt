use Rattle.std.proofs.Common.{take}
use Rattle.std.specs.List.{All, Contains}
use Rattle.rel_base.specs.Projection.{part}
use Rattle.lossless_join.proofs.tests.plain.is_matched.Given as goal

abbrev pub invariant-loop-table : goal.invariant-loop-table
invariant-loop-table l = All (λ table. Contains table.rows (part table.columns l.row)) (take l.table-index l.tables)
