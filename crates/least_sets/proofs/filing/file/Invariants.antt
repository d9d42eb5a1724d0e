use Rattle.least_sets.specs.Drafts.{lists_behind}
use Rattle.least_sets.proofs.Filed.{FiledSoFar}
use Rattle.least_sets.proofs.filing.file.Given as goal

abbrev pub invariant-loop-column : goal.invariant-loop-column
invariant-loop-column l = FiledSoFar l.z l.places (lists_behind l.fn.lists.items) (lists_behind l.lists.items) l.column
