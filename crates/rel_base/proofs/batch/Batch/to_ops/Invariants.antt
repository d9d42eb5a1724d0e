use Rattle.std.proofs.Common.{◌≡◌, take}
use Rattle.rel_base.specs.PackedOps.{place_of, IsCursor}
use Rattle.rel_base.proofs.batch.Batch.to_ops.Given as goal

abbrev pub invariant-loop-place : goal.invariant-loop-place
invariant-loop-place l = record {
  items : l.ops.items ≡ take l._place l.self;
  is : IsCursor l.self l.cursor;
  place : place_of l.cursor ≡ l._place;
}
