use Rattle.csv.specs.Records.{fields_of, partial_of}
use Rattle.lossless_join.specs.Joining.{merged_cell}
use Rattle.lossless_join.proofs.Filling.{Laid}
use Rattle.lossless_join.proofs.parts.merged.Given as goal

abbrev pub invariant-loop-column : goal.invariant-loop-column
invariant-loop-column l = Laid (merged_cell l.columns l.row l.part) l.column (fields_of l.record) (partial_of l.record)
