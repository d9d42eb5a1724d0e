use Rattle.bcnf_split.proofs.PlainSplit.{Found}
use Rattle.bcnf_split.proofs.tests.plain.determined_columns.Given as goal

abbrev pub invariant-loop-column : goal.invariant-loop-column
invariant-loop-column l = Found l.sets l.x l.column l.found
