use Rattle.std.proofs.Common.{Option, List, subst, sym}
use Rattle.std.specs.Borrow.{Bor}
use Rattle.rel_base.specs.Cells.{Cell}
use Rattle.inclusion_merge.specs.Asked.{asked_cells}
use Rattle.inclusion_merge.specs.Marks.{is_marked}
use Rattle.inclusion_merge.specs.Values.{IsValuesOf}
use Rattle.inclusion_merge.proofs.Cells.{IsValuesOf-filter}
use Rattle.inclusion_merge.proofs.values.values_of.Goals as goal

pub returns : goal.returns
returns c =
    let picked = is_marked c.args.marks.now in
    subst (λ (column : Option (Bor (List Cell))). IsValuesOf picked (asked_cells column) c.distinct_in_order.result.items) (sym c.in-Some.is)
    (IsValuesOf-filter picked c.in-Some.column.now c.distinct_in_order.result.items c.in_ok-cells.cells.items c.in_ok-cells.ensures c.distinct_in_order.ensures.rises c.distinct_in_order.ensures.each)
