use Rattle.std.specs.List.{All}
use Rattle.cover_core.specs.KnownLefts.{IsKnownLeft}
use Rattle.cover_core.proofs.known_lefts.push_known_lefts.Given as goal

abbrev pub invariant-loop-cand : goal.invariant-loop-cand
invariant-loop-cand l = All (IsKnownLeft l.own l.from) l.lefts.items
