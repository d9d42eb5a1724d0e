use Rattle.std.proofs.Common.{◌≡◌, ◌++◌, ◌∙◌, List, ℕ, ap, subst}
use Rattle.std.specs.List.{filter, list_any}
use Rattle.col_set.specs.ColSet.{subset}
use Rattle.least_sets.specs.Members.{HasMembers}
use Rattle.least_sets.proofs.growth.changes_with.Goals as goal

pub returns-clause-members : goal.returns-clause-members
returns-clause-members c =
    let found = c.args.found.now in
    let first : c.extend_from_slice.new.self.items ≡ found = c.in_ok-extend_from_slice.ensures.items ∙ ap (λ (xs : List ℕ). xs ++ found) c.in_ok-changes.ensures.items in
    subst (λ (xs : List ℕ). HasMembers xs c.sorted.result.items) (c.in_ok-push_containing.ensures ∙ ap (λ (xs : List ℕ). xs ++ filter (λ x. list_any (λ y. subset y x) found) c.args.sets.now) first) c.sorted.ensures.members
