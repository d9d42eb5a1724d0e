use Rattle.std.proofs.Common.{◌≡◌, [], map, take}
use Rattle.std.specs.Prelude.{decimal}
use Rattle.csv.specs.Records.{fields_of, partial_of}
use Rattle.normalize_text.proofs.demo.row_of.Given as goal

abbrev pub invariant-loop-number : goal.invariant-loop-number
invariant-loop-number l = record {
  filled : fields_of l.record ≡ map decimal (take l.number-index l.numbers);
  whole : partial_of l.record ≡ [];
}
