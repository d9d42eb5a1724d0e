use Rattle.std.proofs.Common.{◌≡◌, [], replicate}
use Rattle.least_sets.specs.Drafts.{lists_behind}
use Rattle.least_sets.proofs.filing.empty_lists.Given as goal

abbrev pub invariant-loop-column : goal.invariant-loop-column
invariant-loop-column l = lists_behind l.lists.items ≡ replicate l.column []
