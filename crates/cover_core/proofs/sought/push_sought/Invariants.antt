use Rattle.std.specs.List.{All}
use Rattle.cover_core.specs.Waiting.{IsSought}
use Rattle.cover_core.proofs.sought.push_sought.Given as goal

abbrev pub invariant-loop-left : goal.invariant-loop-left
invariant-loop-left l = All (IsSought l.draft.width) l.list.items
