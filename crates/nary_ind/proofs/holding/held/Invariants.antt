use Rattle.std.proofs.Common.{◌≡◌, take}
use Rattle.std.specs.List.{filter}
use Rattle.nary_ind.specs.declared.found.Side.{Side}
use Rattle.nary_ind.specs.ListInclusions.{from_to, holds_among}
use Rattle.nary_ind.specs.Tables.{table_at}
use Rattle.nary_ind.specs.Keys.{AreKeysIn, AreLists}
use Rattle.nary_ind.proofs.holding.held.Given as goal

abbrev pub invariant-loop-candidate : goal.invariant-loop-candidate
invariant-loop-candidate l = record {
  lists : AreLists l.unary l.lists;
  keys : AreKeysIn (table_at l.lists.tables.items l.dependent.rel) l.dependent.columns l.keys.items;
  held : l.held.items ≡ filter (λ (i : Side). holds_among l.unary (from_to l.dependent i)) (take l.candidate-index l.candidates);
}
