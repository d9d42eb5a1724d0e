use Rattle.std.proofs.Common.{take, rules, arith, ap, ◌∙◌}
use Rattle.std.proofs.lemmas.List.{with_items_is, places}
use Rattle.ports.proofs.Moving.{Moves-more}
use Rattle.ports.proofs.Shelves.{ReadsOn-more}
use Rattle.ports.proofs.whole_files.load_opened.Goals as goal

pub loop-filled-preserved : goal.loop-filled-preserved
loop-filled-preserved g c =
    let shelf = g.H.Shelf in
    let filled = c.loop-filled.invariant.0 in
    let read = c.in-Got.ensures in
    rw (with_items_is c.make_room.new.buffer c.read_file_behind.new.buffer (search (rules, places))) (
      record {
        within = search (rules, places);
        short = search (rules, places);
        moved = Moves-more _ _ _ c.loop-filled.bytes.items _ _ _ (read.front ∙ ap (take c.loop-filled.filled) c.as_mut_slice.ensures.value ∙ c.make_room.ensures.front) filled.moved read.moved.2;
      },
      ReadsOn-more shelf.opened _ _ _ _ _ _ _ _ c.loop-filled.invariant.1 read.opened read.content read.reads read.writes,
      read.opens ∙ c.loop-filled.invariant.2,
      omega (arith, read.taken, c.loop-filled.invariant.3),
    )
