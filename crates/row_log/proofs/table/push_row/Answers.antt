use Rattle.std.proofs.Common.{◌∙◌}
use Rattle.rel_base.specs.PackedOps.{cells_of, row_at}
use Rattle.row_log.proofs.Rows.{restored}
use Rattle.row_log.proofs.table.push_row.Goals as goal

pub returns-in-Err-clause-refused : goal.returns-in-Err-clause-refused
returns-in-Err-clause-refused c =
    c.truncate_rows.ensures
    ∙ restored c.args.columns.now c.loop-place.columns (row_at (cells_of c.args.batch.now) c.args.row) c.args.rows c.loop-place.place c.push.new.self c.index-columns-place.result c.requires.even c.loop-place.auto.columns
    c.loop-place.invariant.0 c.loop-place.invariant.1 c.in-Err.ensures.refused
