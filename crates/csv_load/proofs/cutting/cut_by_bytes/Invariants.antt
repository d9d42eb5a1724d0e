use Rattle.std.proofs.Common.{take}
use Rattle.csv_load.specs.WideRecords.{state_of}
use Rattle.csv_load.proofs.Cuts.{Stands}
use Rattle.csv_load.proofs.cutting.cut_by_bytes.Given as goal

abbrev pub invariant-loop-index : goal.invariant-loop-index
invariant-loop-index l = Stands (take l.index l.text) (state_of l.place)
