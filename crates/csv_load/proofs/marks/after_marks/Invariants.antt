use Rattle.std.proofs.Common.{◌≡◌, length}
use Rattle.csv_load.specs.Records.{without_marks}
use Rattle.csv_load.proofs.marks.after_marks.Given as goal

abbrev pub invariant-loop-after : goal.invariant-loop-after
invariant-loop-after l = without_marks l.rest ≡ without_marks l.fn.bytes

abbrev pub decreases-loop-after : goal.decreases-loop-after
decreases-loop-after l = length l.rest
