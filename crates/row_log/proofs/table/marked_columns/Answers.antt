use Rattle.std.proofs.lemmas.List.{get_or_read}
use Rattle.row_log.specs.Table.{no_column}
use Rattle.row_log.proofs.Marks.{marked-more}
use Rattle.row_log.proofs.table.marked_columns.Goals as goal

pub loop-column-preserved : goal.loop-column-preserved
loop-column-preserved c =
    marked-more c.args.columns.now c.args.flags.now c.loop-column.marked.items c.push.new.self.items c.loop-column.column-index c.column-item.result c.in_ok-marked-2.field-0 c.loop-column.invariant.0 c.loop-column.invariant.1
    c.in_ok-push.ensures.items (get_or_read c.args.columns.now c.loop-column.column-index c.column-item.result c.loop-column-test.true c.column-item.is no_column) c.in_ok-marked-2.ensures
