use Rattle.std.proofs.Common.{◌≡◌, length}
use Rattle.std.specs.List.{All}
use Rattle.rel_base.specs.Cells.{Row}
use Rattle.plain_base.proofs.samples.Samples.rows.Given as goal

abbrev pub invariant-loop : goal.invariant-loop
invariant-loop l = record {
  count : length l.rows.items ≡ l.counter;
  wide : All (λ (row : Row). length row ≡ l.cells) l.rows.items;
}
