use Rattle.std.proofs.Common.{◌≡◌, ◌+◌, ◌<◌, ◌≤◌, ◌++◌, List, length, map}
use Rattle.csv_load.specs.Records.{records_of}
use Rattle.batch_update.specs.Coming.{coming}
use Rattle.batch_update.specs.declared.entry.Entry.{Entry}
use Rattle.batch_update.specs.Entry.{entry_of}
use Rattle.batch_update.proofs.changes.read_part.Given as goal

abbrev pub invariant-loop-fields : goal.invariant-loop-fields
invariant-loop-fields l = record {
  items : (left : List Entry) → l.fn.items.items ++ coming l.fn.so_far.place.no l.fn.so_far.place.rec l.fn.so_far.begun (map (entry_of l.columns l.limits) (records_of l.part) ++ left)
      ≡ l.items.items ++ coming l.place.no l.place.rec l.begun (map (entry_of l.columns l.limits) l.reader.left ++ left);
  some : 0 < l.place.rec;
  numbered : l.place.no ≤ l.place.rec;
  count : l.place.rec + length l.reader.left ≡ l.fn.so_far.place.rec + length (records_of l.part);
}

abbrev pub decreases-loop-fields : goal.decreases-loop-fields
decreases-loop-fields l = length l.reader.left
