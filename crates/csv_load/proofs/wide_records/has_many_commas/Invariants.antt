use Rattle.std.proofs.Common.{◌≤◌}
use Rattle.csv_load.proofs.wide_records.has_many_commas.Given as goal

abbrev pub invariant-loop-byte : goal.invariant-loop-byte
invariant-loop-byte l = l.commas ≤ l.byte-index
