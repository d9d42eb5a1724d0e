use Rattle.std.proofs.Common.{ℕ, subst, IfOk}
use Rattle.least_sets.specs.Growth.{IsExplored}
use Rattle.least_sets.proofs.explore.least_sets_inside.Goals as goal

pub returns-clause-found : goal.returns-clause-found
returns-clause-found g c = subst (λ (u : ℕ). IfOk c.explored.result (λ sets. IsExplored u c.args.rest.now c.args.withdrawn.now c.args.target sets.items)) c.choices.ensures c.explored.ensures.found
