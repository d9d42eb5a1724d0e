use Rattle.std.proofs.Common.{sym}
use Rattle.least_sets.specs.Growth.{choices}
use Rattle.least_sets.proofs.Evidence.{lists_known}
use Rattle.least_sets.proofs.draft.grow_unless.Goals as goal

pub returns-then-has_target : goal.returns-then-has_target
returns-then-has_target c = λ ws l. lists_known (choices c.args.columns c.args.target) ws c.args.target c.args.z c.args.sets.now.items (sym c.if-has_target.ensures) l
