use Rattle.nary_ind.proofs.Starts.{adds-more}
use Rattle.nary_ind.proofs.unary.push_columns.Goals as goal

pub loop-column-preserved : goal.loop-column-preserved
loop-column-preserved c =
    adds-more c.args.relation.now c.loop-column.column c.args.cells.now.items c.loop-column.cells.items c.push.new.self.items c.in_ok-distinct_cells.field-0 c.loop-column.invariant c.in_ok-distinct_cells.ensures c.in_ok-push.ensures.items
