use Rattle.std.proofs.Common.{length}
use Rattle.csv_load.specs.Records.{records_of}
use Rattle.csv_load.proofs.RowsBelow.{AreRead}
use Rattle.csv_load.proofs.by_threads.read_rows.Given as goal

abbrev pub invariant-loop-record : goal.invariant-loop-record
invariant-loop-record l = AreRead l.limits l.names (records_of l.text) l.reader.left l.relation

abbrev pub decreases-loop-record : goal.decreases-loop-record
decreases-loop-record l = length l.reader.left
