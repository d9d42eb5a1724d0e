use Rattle.cover_steps.specs.Sound.{Sound}
use Rattle.cover_core.proofs.Turn.{IsTurned}
use Rattle.cover_core.proofs.book.Book.search.Given as goal

abbrev pub invariant-loop-size : goal.invariant-loop-size
invariant-loop-size g l = IsTurned l.fn.self l.self × Sound l.self
