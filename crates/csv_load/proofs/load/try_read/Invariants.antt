use Rattle.std.proofs.Common.{◌≡◌, ◌<◌, ◌≤◌, length}
use Rattle.csv_load.specs.Records.{records_of}
use Rattle.csv_load.proofs.FirstRefused.{IsReadTo}
use Rattle.csv_load.proofs.load.try_read.Given as goal

abbrev pub invariant-loop-giant : goal.invariant-loop-giant
invariant-loop-giant l = record {
  read : IsReadTo l.limits (records_of l.fn.bytes) l.relation.names l.relation.rows l.reader.left;
  narrow : length l.relation.names ≤ l.limits.columns;
  width : l.width ≡ length l.relation.names;
  some : 0 < length l.relation.names;
}

abbrev pub decreases-loop-giant : goal.decreases-loop-giant
decreases-loop-giant l = length l.reader.left
