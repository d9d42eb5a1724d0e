use Rattle.std.proofs.Common.{◌≡◌, drop}
use Rattle.csv.specs.Records.{fields_of}
use Rattle.csv_load.specs.Refusal.{has_long_cell}
use Rattle.csv_load.proofs.refusal.has_long_cell.Given as goal

abbrev pub invariant-loop-place : goal.invariant-loop-place
invariant-loop-place l = has_long_cell l.limit (drop l.start (fields_of l.fields)) ≡ has_long_cell l.limit (drop l.place (fields_of l.fields))
