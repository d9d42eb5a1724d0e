use Rattle.std.proofs.Common.{◌≡◌, ◌<◌, ℕ, [], length, map, get_or}
use Rattle.nary_ind.specs.Numbering.{AreNumbersIfUsed, IsMore}
use Rattle.nary_ind.proofs.numbering.table_of.Given as goal

abbrev pub invariant-loop-column : goal.invariant-loop-column
invariant-loop-column l = record {
  more : IsMore l.initial.numbers l.numbers;
  long : length l.columns.items ≡ l.column;
  numbers : (c : ℕ) → c < l.column → AreNumbersIfUsed l.numbers.cells l.unary l.relation c (get_or (map (λ v. v.items) l.columns.items) c []);
}
