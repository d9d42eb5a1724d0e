use Rattle.std.proofs.Common.{subst}
use Rattle.cover_steps.specs.Core.{Core}
use Rattle.cover_core.specs.Past.{IsFirst}
use Rattle.cover_core.proofs.book.Book.first.Goals as goal

pub returns : goal.returns
returns c = subst (λ (s : Core). IsFirst s c.self.inside.first) c.self.view_is c.self.invariant.3
