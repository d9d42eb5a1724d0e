use Rattle.std.proofs.Common.{◌≡◌, ◌++◌, [], drop}
use Rattle.csv.specs.Records.{fields_of, partial_of}
use Rattle.batch_update.proofs.cells.cells_from.Given as goal

abbrev pub invariant-loop-place : goal.invariant-loop-place
invariant-loop-place l = record {
  copied : fields_of l.cells ++ drop l.place (fields_of l.fields) ≡ drop l.start (fields_of l.fields);
  between : partial_of l.cells ≡ [];
}
