use Rattle.std.proofs.Common.{ℕ, refl, subst}
use Rattle.least_sets.specs.Growth.{choices, ListsLeast}
use Rattle.least_sets.proofs.Listing.{lists_members, sorted_least}
use Rattle.least_sets.proofs.least.least_sets.Goals as goal

pub returns : goal.returns
returns c =
    let n = c.args.columns in
    let ws = c.args.agree_sets.now in
    sorted_least n ws c.args.target c.in_ok-sets.sets.items c.in_ok-sets.ensures.order
    (lists_members (choices n c.args.target) ws c.args.target c.in_ok-found.found.items c.in_ok-sets.sets.items c.in_ok-sets.ensures.members
    (subst (λ (u : ℕ). ListsLeast u ws c.args.target c.in_ok-found.found.items) c.choices-choices.ensures (c.in_ok-found.ensures.all refl)))
