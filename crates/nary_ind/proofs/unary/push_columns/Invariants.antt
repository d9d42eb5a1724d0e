use Rattle.nary_ind.specs.Unary.{AddsColumns}
use Rattle.nary_ind.proofs.unary.push_columns.Given as goal

abbrev pub invariant-loop-column : goal.invariant-loop-column
invariant-loop-column l = AddsColumns l.relation l.column l.initial.cells.items l.cells.items
