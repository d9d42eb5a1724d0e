use Rattle.std.proofs.Common.{◌≡◌, ◌<◌, ℕ, length}
use Rattle.nary_ind.specs.Numbering.{IsTableOf, StartsWithNull}
use Rattle.nary_ind.specs.Tables.{table_at}
use Rattle.nary_ind.proofs.numbering.tables_of.Given as goal

abbrev pub invariant-loop-relation : goal.invariant-loop-relation
invariant-loop-relation l = record {
  null : StartsWithNull l.numbers;
  long : length l.tables.items ≡ l.relation;
  tables : (p : ℕ) → p < l.relation → IsTableOf l.numbers.cells l.unary p (table_at l.tables.items p);
}
