use Rattle.std.proofs.Common.{map, take}
use Rattle.rel_base.specs.Cells.{cell}
use Rattle.rel_base.specs.RowState.{row}
use Rattle.nary_ind.specs.Numbering.{AreNumbersOf, IsMore}
use Rattle.nary_ind.proofs.numbering.numbers_of.Given as goal

abbrev pub invariant-loop-number : goal.invariant-loop-number
invariant-loop-number l = record {
  more : IsMore l.initial.numbers l.numbers;
  found : AreNumbersOf l.numbers.cells (map (λ number. cell (row l.rows number) l.column) (take l.number-index l.live)) l.found.items;
}
