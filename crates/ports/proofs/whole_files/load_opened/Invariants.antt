use Rattle.std.proofs.Common.{◌≡◌, ◌≤◌, ◌+◌, ◌-◌}
use Rattle.ports.specs.Files.{left_of}
use Rattle.ports.proofs.Moving.{Filling}
use Rattle.ports.proofs.Shelves.{ReadsOn}
use Rattle.ports.proofs.whole_files.load_opened.Given as goal

abbrev pub invariant-loop-filled : goal.invariant-loop-filled
invariant-loop-filled g l =
    let shelf = g.H.Shelf in
    Filling l.limit l.filled l.bytes.items (left_of (shelf.opened l.initial.shelf)) (left_of (shelf.opened l.shelf))
    × ReadsOn shelf.opened shelf.content shelf.read_faults shelf.read_last shelf.write_faults shelf.write_last l.initial.shelf l.shelf
    × (shelf.opens l.shelf ≡ shelf.opens l.initial.shelf)
    × (shelf.taken l.shelf ≤ shelf.taken l.initial.shelf + l.filled)

abbrev pub decreases-loop-filled : goal.decreases-loop-filled
decreases-loop-filled g l = l.limit + 1 - l.filled
