use Rattle.rel_base.specs.Projection.{projected, distinct}
use Rattle.lossless_join.proofs.Distinct.{projected_more}
use Rattle.lossless_join.proofs.parts.project.Goals as goal

pub loop-row-init : goal.loop-row-init
unfolding projected distinct
loop-row-init c = c.no_rows-parts.ensures

pub loop-row-preserved : goal.loop-row-preserved
loop-row-preserved c = projected_more c.args.columns c.args.rows.now c.loop-row.row-index c.row-item.result c.in_ok-part_of.field-0 c.loop-row.parts.keys c.insert.new.self.keys c.loop-row-test.true c.row-item.is c.loop-row.invariant
    c.in_ok-part_of.ensures c.in_ok-insert.ensures.keys
