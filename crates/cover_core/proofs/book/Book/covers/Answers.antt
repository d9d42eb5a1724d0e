use Rattle.std.proofs.Common.{◌∙◌, ap}
use Rattle.rel_base.specs.Covers.{covers}
use Rattle.cover_steps.specs.Core.{Core, first_unfinished}
use Rattle.cover_core.proofs.Calls.{listed-is, listed-exact}
use Rattle.cover_core.proofs.Turn.{both-ok}
use Rattle.cover_core.proofs.book.Book.covers.Goals as goal

pub returns : goal.returns
returns c = both-ok c.listed.result _ _ _ c.listed.ensures.keys c.listed.ensures.fds (λ found keys fds.
    listed-exact _ _ c.self.invariant.0 found (ap first_unfinished c.self.view_is ∙ c.requires) (listed-is _ _ c.self.invariant.0 found keys fds) ∙ ap (λ (s : Core). covers s.rows) c.self.view_is)
