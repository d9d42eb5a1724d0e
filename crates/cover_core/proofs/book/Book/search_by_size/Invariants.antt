use Rattle.std.proofs.Common.{◌≡◌}
use Rattle.std.specs.List.{All}
use Rattle.rel_base.specs.RowState.{width}
use Rattle.cover_steps.specs.Sound.{Sound}
use Rattle.cover_steps.specs.Evidences.{IsNews}
use Rattle.cover_core.specs.Judged.{IsSeen}
use Rattle.cover_core.proofs.book.Book.search_by_size.Given as goal

abbrev pub invariant-loop-size : goal.invariant-loop-size
invariant-loop-size g l = (l.self ≡ l.fn.self) × Sound l.self × IsNews l.self.rows (width l.self.rows) l.self.witnesses l.news.witnesses.items l.news.draft × All (IsSeen l.self.rows) l.held.items
