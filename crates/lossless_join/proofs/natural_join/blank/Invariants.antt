use Rattle.csv.specs.Records.{fields_of, partial_of}
use Rattle.lossless_join.proofs.Filling.{Laid, null_at}
use Rattle.lossless_join.proofs.natural_join.blank.Given as goal

abbrev pub invariant-loop-column : goal.invariant-loop-column
invariant-loop-column l = Laid null_at l._column (fields_of l.record) (partial_of l.record)
