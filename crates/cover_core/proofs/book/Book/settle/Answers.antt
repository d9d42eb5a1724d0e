use Rattle.std.proofs.Common.{◌≡◌, ◌∙◌, ap, refl, None}
use Rattle.rel_base.specs.Covers.{covers}
use Rattle.cover_steps.specs.Core.{Core, listed_covers, first_unfinished}
use Rattle.cover_core.proofs.Calls.{listed-is, listed-exact}
use Rattle.cover_core.proofs.Cursors.{first-told, first-none}
use Rattle.cover_core.proofs.book.Book.settle.Goals as goal
use Rattle.cover_core.proofs.book.Book.settle.Goals.{In_ok-listed-in-None}

none : (c : In_ok-listed-in-None) → first_unfinished c.args.self.now ≡ None
none c = first-none c.args.self.now c.first.result c.first.ensures c.in-None.is

is : (c : In_ok-listed-in-None) → c.in_ok-listed-in-None.field-0 ≡ listed_covers (record { rows = c.self.inside.rows; witnesses = c.self.inside.witnesses; candidates = c.self.inside.candidates })
is c = listed-is _ _ c.self.invariant.0 c.in_ok-listed-in-None.field-0 c.in_ok-listed-in-None.ensures.keys c.in_ok-listed-in-None.ensures.fds

pub returns-in-Some-clause-step : goal.returns-in-Some-clause-step
returns-in-Some-clause-step c = (first-told c.args.self.now c.first.result c.in-Some.first c.first.ensures c.in-Some.is, refl)

pub returns-in_ok-listed-in-None-clause-step : goal.returns-in_ok-listed-in-None-clause-step
returns-in_ok-listed-in-None-clause-step c = (none c, is c ∙ ap listed_covers c.self.view_is, refl)

pub returns-in_ok-listed-in-None-clause-exact : goal.returns-in_ok-listed-in-None-clause-exact
returns-in_ok-listed-in-None-clause-exact c =
    listed-exact _ _ c.self.invariant.0 c.in_ok-listed-in-None.field-0 (ap first_unfinished c.self.view_is ∙ none c) (is c) ∙ ap (λ (s : Core). covers s.rows) c.self.view_is
