use Rattle.std.proofs.Common.{◌≤◌, ◌<◌, ◌-◌, drop}
use Rattle.csv_load.specs.WideRecords.{state_of}
use Rattle.csv_load.specs.Records.{without_marks}
use Rattle.csv_load.proofs.WideRecords.{IsScanned}
use Rattle.csv_load.proofs.wide_records.first_wide_record.Given as goal

abbrev pub invariant-loop-byte : goal.invariant-loop-byte
invariant-loop-byte l = record {
  scanned : IsScanned (without_marks l.bytes) (state_of l.place) (drop l.byte-index (without_marks l.bytes)) (l.rec - 1) l.ended;
  few : l.ended ≤ l.fn.limit - 1;
  some : 0 < l.rec;
  most : l.rec ≤ l.last;
}
