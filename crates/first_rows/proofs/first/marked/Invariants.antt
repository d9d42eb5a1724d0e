use Rattle.std.proofs.Common.{◌-◌}
use Rattle.first_rows.specs.Marked.{MarkedBy}
use Rattle.first_rows.proofs.first.marked.Given as goal

abbrev pub invariant-loop-k : goal.invariant-loop-k
invariant-loop-k l = MarkedBy l.groups (l.snapshot.to - 1) l.k l.later.items
