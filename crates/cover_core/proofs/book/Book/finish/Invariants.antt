use Rattle.cover_core.specs.Work.{work}
use Rattle.cover_core.proofs.Turn.{IsTurned}
use Rattle.cover_core.proofs.book.Book.finish.Given as goal

abbrev pub invariant-loop : goal.invariant-loop
invariant-loop l = IsTurned l.fn.self l.self

abbrev pub decreases-loop : goal.decreases-loop
decreases-loop l = work l.self
