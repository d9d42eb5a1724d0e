use Rattle.std.proofs.Common.{◌≡◌, vec_len}
use Rattle.std.specs.List.{All}
use Rattle.ports.specs.Memory.{empty_room}
use Rattle.ports.proofs.mem_shelf.blank_buffers.Given as goal

abbrev pub invariant-loop : goal.invariant-loop
invariant-loop l = (vec_len l.buffers ≡ l.counter) × All (λ buffer. buffer ≡ empty_room l.room) l.buffers.items
