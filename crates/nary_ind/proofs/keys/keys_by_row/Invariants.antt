use Rattle.std.proofs.Common.{◌≢◌, ℕ}
use Rattle.std.specs.Prelude.{◌↔◌}
use Rattle.col_set.specs.Listing.{Listed}
use Rattle.nary_ind.specs.Keys.{IsKeyBelow}
use Rattle.nary_ind.proofs.keys.keys_by_row.Given as goal

abbrev pub invariant-loop-row : goal.invariant-loop-row
invariant-loop-row l = (key : ℕ) → Listed key l.keys.items ↔ (IsKeyBelow l.row l.table l.columns key × (key ≢ 0))
