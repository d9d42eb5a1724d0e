use Rattle.std.proofs.Common.{◌≡◌, ◌+◌, ◌<◌, ◌≤◌, ◌++◌, length, map}
use Rattle.csv_load.specs.Records.{records_of}
use Rattle.batch_update.specs.Changes.{changes}
use Rattle.batch_update.specs.Coming.{coming}
use Rattle.batch_update.specs.Entry.{entry_of}
use Rattle.batch_update.proofs.changes.read_changes.Given as goal

abbrev pub invariant-loop-parted : goal.invariant-loop-parted
invariant-loop-parted l = record {
  items : changes l.bytes l.columns l.limits ≡ l.items.items ++ coming l.so_far.place.no l.so_far.place.rec l.so_far.begun (map (entry_of l.columns l.limits) (records_of l.rest));
  some : 0 < l.so_far.place.rec;
  numbered : l.so_far.place.no ≤ l.so_far.place.rec;
  few : l.so_far.place.rec + length (records_of l.rest) ≤ length l.bytes + 1;
}

abbrev pub decreases-loop-parted : goal.decreases-loop-parted
decreases-loop-parted l = length (records_of l.rest)
