use Rattle.std.specs.List.{All}
use Rattle.cover_core.specs.Waiting.{IsWaiting}
use Rattle.cover_core.proofs.waiting.push_waiting.Given as goal

abbrev pub invariant-loop-place : goal.invariant-loop-place
invariant-loop-place l = All (IsWaiting l.candidates) l.list.items
