use Rattle.csv_load.specs.WideRecords.{state_of}
use Rattle.csv_load.proofs.Parting.{IsInRecord}
use Rattle.csv_load.proofs.parted.end_of_record.Given as goal

abbrev pub invariant-loop-index : goal.invariant-loop-index
invariant-loop-index l = IsInRecord l.rest l.index (state_of l.place)
