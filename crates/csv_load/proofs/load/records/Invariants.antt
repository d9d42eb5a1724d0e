use Rattle.std.proofs.Common.{◌≡◌, ◌++◌, length}
use Rattle.csv_load.specs.Records.{records_of}
use Rattle.csv_load.proofs.load.records.Given as goal

abbrev pub invariant-loop-all : goal.invariant-loop-all
invariant-loop-all l = records_of l.fn.bytes ≡ l.all.items ++ l.reader.left

abbrev pub decreases-loop-all : goal.decreases-loop-all
decreases-loop-all l = length l.reader.left
