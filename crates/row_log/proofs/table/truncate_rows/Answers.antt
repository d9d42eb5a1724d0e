use Rattle.std.proofs.Common.{◌∙◌, ap, sym, set}
use Rattle.std.proofs.lemmas.List.Edits.{map_over_more}
use Rattle.row_log.proofs.Rows.{cut_at}
use Rattle.row_log.proofs.table.truncate_rows.Goals as goal

pub loop-column-preserved : goal.loop-column-preserved
loop-column-preserved c =
    ap (set c.loop-column.columns c.loop-column.column-index) (c.truncate.ensures ∙ ap (cut_at c.args.rows) (sym c.column-item.is))
    ∙ map_over_more (cut_at c.args.rows) c.args.columns.now c.loop-column.columns c.loop-column.column-index c.column-item.result c.loop-column-test.true c.loop-column.invariant c.column-item.is
