use Rattle.std.proofs.Common.{◌≡◌}
use Rattle.std.specs.List.{All}
use Rattle.cover_steps.specs.Sound.{Sound}
use Rattle.cover_steps.specs.Evidences.{IsAllTold}
use Rattle.cover_core.specs.KnownLefts.{AreTrueLefts}
use Rattle.cover_core.specs.Work.{Extends}
use Rattle.cover_core.proofs.book.Book.compare_new.Given as goal

abbrev pub invariant-loop-lefts : goal.invariant-loop-lefts
invariant-loop-lefts g l = (l.self.rows ≡ l.fn.self.rows) × Extends l.fn.self.witnesses l.self.witnesses × Sound l.self × IsAllTold l.self l.from × All (AreTrueLefts l.self.rows l.from) l.lefts-items
