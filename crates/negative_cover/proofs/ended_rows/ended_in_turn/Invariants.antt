use Rattle.std.proofs.Common.{◌≡◌, take}
use Rattle.rel_base.specs.PackedOps.{place_of, IsCursor}
use Rattle.negative_cover.specs.EndedRows.{ended}
use Rattle.negative_cover.proofs.ended_rows.ended_in_turn.Given as goal

abbrev pub invariant-loop-place : goal.invariant-loop-place
invariant-loop-place l = record {
  rows : l.rows.items ≡ ended (take l._place l.batch);
  is : IsCursor l.batch l.cursor;
  place : place_of l.cursor ≡ l._place;
}
