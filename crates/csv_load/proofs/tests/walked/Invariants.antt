use Rattle.std.proofs.Common.{length}
use Rattle.csv_load.proofs.tests.walked.Given as goal

abbrev pub decreases-loop-fields : goal.decreases-loop-fields
decreases-loop-fields l = length l.reader.left
