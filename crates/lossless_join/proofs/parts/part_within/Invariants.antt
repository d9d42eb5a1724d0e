use Rattle.csv.specs.Records.{fields_of, partial_of}
use Rattle.lossless_join.specs.Parts.{part_cell}
use Rattle.lossless_join.proofs.Filling.{Filling}
use Rattle.lossless_join.proofs.parts.part_within.Given as goal

abbrev pub invariant-loop-column : goal.invariant-loop-column
invariant-loop-column l = Filling (part_cell l.columns l.part) l.fn.some l.left (fields_of l.record) (partial_of l.record)

abbrev pub decreases-loop-column : goal.decreases-loop-column
decreases-loop-column l = l.left
