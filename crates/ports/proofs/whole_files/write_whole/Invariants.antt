use Rattle.std.proofs.Common.{◌≡◌, ◌≤◌, ◌-◌, length}
use Rattle.ports.proofs.Shelves.{WritesOn}
use Rattle.ports.proofs.whole_files.write_whole.Given as goal

abbrev pub invariant-loop-done : goal.invariant-loop-done
invariant-loop-done g l =
    let shelf = g.H.Shelf in
    (l.done ≤ length l.bytes) × WritesOn shelf.opened shelf.content shelf.read_faults shelf.read_last shelf.write_faults shelf.write_last l.bytes l.done l.initial.shelf l.shelf
    × (shelf.opens l.shelf ≡ shelf.opens l.initial.shelf)
    × (shelf.taken l.shelf ≡ shelf.taken l.initial.shelf)

abbrev pub decreases-loop-done : goal.decreases-loop-done
decreases-loop-done g l = length l.bytes - l.done
