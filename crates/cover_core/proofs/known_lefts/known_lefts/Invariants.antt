use Rattle.std.specs.List.{All}
use Rattle.cover_core.specs.KnownLefts.{AreKnownLefts}
use Rattle.cover_core.proofs.known_lefts.known_lefts.Given as goal

abbrev pub invariant-loop-column : goal.invariant-loop-column
invariant-loop-column l = All (AreKnownLefts l.candidates l.from) l.lists.items
