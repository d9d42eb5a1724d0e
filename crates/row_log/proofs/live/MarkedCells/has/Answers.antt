use Rattle.std.proofs.Common.{◌≡◌, ◌∙◌, true, refl, subst, sym}
use Rattle.column_dict.specs.Coding.{IsCodeOf, is_new}
use Rattle.row_log.specs.Marked.{Marked}
use Rattle.row_log.proofs.Marks.{code-unmarked, new-unmarked}
use Rattle.row_log.proofs.live.MarkedCells.has.Goals as goal

pub returns-in-Some-clause-no : goal.returns-in-Some-clause-no
returns-in-Some-clause-no c f filled =
    code-unmarked c.args.self.now c.args.cell.now c.in-Some.code (subst (λ (m : Marked). IsCodeOf m.coding c.args.cell.now c.in-Some.code) c.self.view_is c.in-Some.ensures.agrees) (sym c.is_marked.ensures ∙ f) filled

pub returns-in-None-clause-no : goal.returns-in-None-clause-no
returns-in-None-clause-no c f filled =
    new-unmarked c.args.self.now c.args.cell.now (subst (λ (m : Marked). is_new m.coding c.args.cell.now ≡ true) c.self.view_is (c.in-None.ensures.lacking refl)) filled
