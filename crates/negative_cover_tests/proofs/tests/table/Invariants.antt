use Rattle.std.proofs.Common.{◌≡◌, length}
use Rattle.std.specs.List.{All}
use Rattle.negative_cover_tests.proofs.tests.table.Given as goal

abbrev pub invariant-loop-column : goal.invariant-loop-column
invariant-loop-column l = record {
  count : length l.codes.items ≡ l.column;
  each : All (λ codes. length codes ≡ l.rows) l.codes.items;
}
