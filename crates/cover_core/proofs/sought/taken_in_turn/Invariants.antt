use Rattle.std.specs.List.{All}
use Rattle.cover_core.specs.Waiting.{IsWanted}
use Rattle.cover_core.proofs.sought.taken_in_turn.Given as goal

abbrev pub invariant-loop : goal.invariant-loop
invariant-loop l = All (IsWanted l.wanted) l.list.items
