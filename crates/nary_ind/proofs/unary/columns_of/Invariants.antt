use Rattle.std.proofs.Common.{◌≡◌, map, take}
use Rattle.std.specs.List.{AllZip}
use Rattle.col_set.specs.ColSet.{upto}
use Rattle.rel_base.specs.RowState.{width}
use Rattle.rel_base.specs.Inclusion.{all_columns}
use Rattle.nary_ind.specs.Laws.{start_of}
use Rattle.nary_ind.specs.Unary.{SameFilled}
use Rattle.nary_ind.proofs.unary.columns_of.Given as goal

abbrev pub invariant-loop-relation : goal.invariant-loop-relation
invariant-loop-relation l = record {
  begin : l.starts.items ≡ map (start_of (map width l.relations)) (upto l.relation-index);
  same : AllZip SameFilled (all_columns (take l.relation-index l.relations)) l.cells.items;
}
