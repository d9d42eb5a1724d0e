use Rattle.std.proofs.Common.{ℕ, List, length, sym, ap, subst}
use Rattle.least_sets.specs.Drafts.{Drafted, AreDrafted, lists_behind}
use Rattle.least_sets.proofs.draft.Draft.of.Goals as goal

pub with_filing-requires-clause-lists : goal.with_filing-requires-clause-lists
with_filing-requires-clause-lists c = subst (λ (ws : List ℕ). AreDrafted (length c.args.columns.items) ws c.args.row_id.items (lists_behind c.args.columns.items)) (sym (ap (λ (d : Drafted). d.agree_sets) c.in_ok-filing.ensures)) c.requires.lists
