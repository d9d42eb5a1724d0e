use Rattle.std.proofs.Common.{arith}
use Rattle.stripped_partition.proofs.Removing.{room_coded}
use Rattle.stripped_partition.proofs.tally.Tally.new.Goals as goal

pub returns : goal.returns
returns c =
    let many = c.in_ok-vec.ensures.len in let rows = c.in_ok-vec-2.ensures.len in let live = c.live_count.ensures in
    let n = c.columns-column-end.ensures.value in let l = c.loop-column-test.false in
    record {
      some = omega arith;
      coded = room_coded c.args.snapshot.now c.loop-column.most _ (λ k h. c.loop-column.invariant k (omega arith)) many;
      rows = omega arith;
    }
