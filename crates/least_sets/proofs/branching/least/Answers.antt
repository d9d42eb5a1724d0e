use Rattle.std.proofs.Common.{◌≡◌, ◌∙◌, not, ap, subst, ℕ, [], Option}
use Rattle.std.specs.List.{filter}
use Rattle.std.specs.Option.{is_none}
use Rattle.std.proofs.lemmas.List.{take_all}
use Rattle.col_set.specs.Target.{has_target}
use Rattle.least_sets.specs.Branches.{HasBranched}
use Rattle.least_sets.proofs.Branches.{branched_each, branched_least, outermost_tell}
use Rattle.least_sets.proofs.branching.least.Goals as goal

pub returns-clause-each : goal.returns-clause-each
returns-clause-each g c =
    let lacking = c.loop-w.lacking.items in
    let kept = c.in_ok-kept.kept.items in
    let whole : lacking ≡ filter (λ w. not (has_target w c.args.target)) c.args.agree_sets.now = c.loop-w.invariant ∙ ap (filter (λ w. not (has_target w c.args.target))) (take_all c.loop-w.w-index c.args.agree_sets.now c.loop-w-test.false) in
    branched_each c.args.columns c.args.agree_sets.now c.args.target kept c.in_ok-found.found.items
    (outermost_tell c.args.columns c.args.agree_sets.now c.args.target lacking kept whole c.in_ok-kept.ensures.real c.in_ok-kept.ensures.all) c.in_ok-found.ensures

pub returns-clause-all : goal.returns-clause-all
returns-clause-all g c = λ u.
    let lacking = c.loop-w.lacking.items in
    let kept = c.in_ok-kept.kept.items in
    let whole : lacking ≡ filter (λ w. not (has_target w c.args.target)) c.args.agree_sets.now = c.loop-w.invariant ∙ ap (filter (λ w. not (has_target w c.args.target))) (take_all c.loop-w.w-index c.args.agree_sets.now c.loop-w-test.false) in
    branched_least c.args.columns c.args.agree_sets.now c.args.target kept c.in_ok-found.found.items
    (outermost_tell c.args.columns c.args.agree_sets.now c.args.target lacking kept whole c.in_ok-kept.ensures.real c.in_ok-kept.ensures.all)
    (subst (λ (o : Option ℕ). HasBranched (is_none o) kept 0 c.args.columns [] c.in_ok-found.found.items) u c.in_ok-found.ensures)
