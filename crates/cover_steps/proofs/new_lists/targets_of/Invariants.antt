use Rattle.std.proofs.Common.{◌≡◌}
use Rattle.cover_steps.specs.Core.{targets}
use Rattle.cover_steps.proofs.new_lists.targets_of.Given as goal

abbrev pub invariant-loop-column : goal.invariant-loop-column
invariant-loop-column l = l.found.items ≡ targets l.column
