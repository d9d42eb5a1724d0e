use Rattle.std.proofs.Common.{[], ℕ, List, refl, sym, ap, subst}
use Rattle.std.specs.Option.{is_none}
use Rattle.least_sets.specs.declared.frames.Run.{Run}
use Rattle.least_sets.specs.Branches.{parts, join, IsCut, HasBranched}
use Rattle.least_sets.proofs.Branches.{branch_opening, branch_as, cut_opening}
use Rattle.least_sets.proofs.branching.uncovered.Goals as goal

pub returns : goal.returns
returns g c =
    let vs = c.args.agree_sets.items in
    subst (λ (s : ℕ). HasBranched (is_none c.args.most) vs s c.args.columns [] c.branch-frames.new.found.items) c.empty.ensures
    (subst (λ (old : List ℕ). HasBranched (is_none c.args.most) vs c.empty.result c.args.columns old c.branch-frames.new.found.items) c.new-found.ensures.items
    (c.in_ok-branch.ensures.found vs
    (subst (λ (s : ℕ). IsCut s (parts c.new.result.items c.new-2.result.items)) (sym c.empty.ensures) (subst (λ (rs : List Run). IsCut 0 (parts c.new.result.items rs)) (sym c.new-2.ensures.items) cut_opening))
    (branch_as vs 0 c.empty.result c.args.columns c.args.columns vs vs [] (join (parts c.new.result.items c.new-2.result.items)) c.empty.ensures refl refl (ap (λ (rs : List Run). join (parts c.new.result.items rs)) c.new-2.ensures.items) (branch_opening vs c.args.columns))))
