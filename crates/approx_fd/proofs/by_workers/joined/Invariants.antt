use Rattle.std.proofs.Common.{◌≡◌, take}
use Rattle.std.specs.List.{flat_map}
use Rattle.approx_fd.proofs.Joining.{items}
use Rattle.approx_fd.proofs.by_workers.joined.Given as goal

abbrev pub invariant-loop-list : goal.invariant-loop-list
invariant-loop-list l = l.found.items ≡ flat_map items (take l.list-index l.lists)
