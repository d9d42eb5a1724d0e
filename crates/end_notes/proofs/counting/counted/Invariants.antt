use Rattle.std.proofs.Common.{◌≡◌, ◌≤◌, drop, length}
use Rattle.csv_load.specs.Records.{records_of}
use Rattle.end_notes.proofs.counting.counted.Given as goal

abbrev pub invariant-loop : goal.invariant-loop
invariant-loop l = record {
  left : l.reader.left ≡ drop l.counter (records_of l.bytes);
  some : l.counter ≤ length (records_of l.bytes);
}
