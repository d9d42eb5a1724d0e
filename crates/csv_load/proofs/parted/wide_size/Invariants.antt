use Rattle.std.proofs.Common.{◌≤◌, take}
use Rattle.csv_load.specs.WideRecords.{state_of}
use Rattle.csv_load.proofs.Parting.{IsReadIn}
use Rattle.csv_load.proofs.parted.wide_size.Given as goal

abbrev pub invariant-loop-index : goal.invariant-loop-index
invariant-loop-index l = record {
  read : IsReadIn (take l.index l.text) (state_of l.place) l.ended;
  few : l.ended ≤ l.index;
}
