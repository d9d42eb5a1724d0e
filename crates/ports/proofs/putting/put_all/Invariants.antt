use Rattle.std.proofs.Common.{◌≡◌, ◌≤◌, ◌-◌, take, length}
use Rattle.ports.specs.Bytes.{Gains}
use Rattle.ports.proofs.putting.put_all.Given as goal

abbrev pub invariant-loop-done : goal.invariant-loop-done
invariant-loop-done g l =
    let sink = g.O.Sink in
    (l.done ≤ length l.bytes) × Gains (sink.held l.initial.sink) (sink.held l.sink) (take l.done l.bytes) × (sink.room l.sink ≡ sink.room l.initial.sink) × (sink.faults l.sink ≡ sink.faults l.initial.sink)

abbrev pub decreases-loop-done : goal.decreases-loop-done
decreases-loop-done g l = length l.bytes - l.done
