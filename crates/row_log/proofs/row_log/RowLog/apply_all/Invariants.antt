use Rattle.std.proofs.Common.{◌≡◌, take, Ok}
use Rattle.rel_base.specs.Batches.{after}
use Rattle.rel_base.specs.PackedOps.{place_of, IsCursor}
use Rattle.row_log.proofs.row_log.RowLog.apply_all.Given as goal

abbrev pub invariant-loop-k : goal.invariant-loop-k
invariant-loop-k l = record {
  after : after l.initial.self (take l.k l.batch) ≡ Ok l.self;
  is : IsCursor l.batch l.cursor;
  place : place_of l.cursor ≡ l.k;
}
