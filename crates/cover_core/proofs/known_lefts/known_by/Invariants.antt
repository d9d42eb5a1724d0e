use Rattle.std.specs.List.{All}
use Rattle.cover_core.specs.KnownLefts.{IsKnownBy}
use Rattle.cover_core.proofs.known_lefts.known_by.Given as goal

abbrev pub invariant-loop-place : goal.invariant-loop-place
invariant-loop-place l = All (IsKnownBy l.candidates l.from l.known) l.found.items
