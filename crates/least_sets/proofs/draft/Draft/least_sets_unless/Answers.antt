use Rattle.std.proofs.Common.{◌≡◌, ◌∙◌, sym, subst}
use Rattle.std.specs.Cmp.Lexicographic.{same_text}
use Rattle.col_set.specs.ColSet.{report_cmp}
use Rattle.col_set.specs.Lists.{Rises}
use Rattle.least_sets.specs.Growth.{choices}
use Rattle.least_sets.proofs.Listing.{lists_members, sorted_least}
use Rattle.least_sets.proofs.draft.Draft.least_sets_unless.Goals as goal

pub returns-then-eq-clause-same : goal.returns-then-eq-clause-same
returns-then-eq-clause-same c = λ e.
    let same : c.in_ok-sets.sets.items ≡ c.args.known.now = sym c.as_slice.ensures.value ∙ same_text c.as_slice.result.now c.args.known.now c.if-eq.ensures in
    sym same ∙ sorted_least c.args.self.now.width c.args.self.now.agree_sets c.args.target c.in_ok-sets.sets.items (subst (Rises report_cmp) (sym same) c.requires.order) c.in_ok-sets.ensures

pub returns-clause-least : goal.returns-clause-least
returns-clause-least c =
    sorted_least c.args.self.now.width c.args.self.now.agree_sets c.args.target c.in_ok-in_order.field-0.items c.in_ok-in_order.ensures.order
    (lists_members (choices c.args.self.now.width c.args.target) c.args.self.now.agree_sets c.args.target c.in_ok-sets.sets.items c.in_ok-in_order.field-0.items c.in_ok-in_order.ensures.members c.in_ok-sets.ensures)
