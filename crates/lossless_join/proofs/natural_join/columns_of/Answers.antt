use Rattle.std.proofs.Common.{◌∙◌, ap}
use Rattle.col_set.specs.ColSet.{union}
use Rattle.lossless_join.specs.NaturalJoin.{columns_of}
use Rattle.lossless_join.proofs.Steps.{columns_more}
use Rattle.lossless_join.proofs.natural_join.columns_of.Goals as goal

pub loop-table-init : goal.loop-table-init
unfolding columns_of
loop-table-init c = c.empty-columns.ensures

pub loop-table-preserved : goal.loop-table-preserved
loop-table-preserved c = columns_more c.args.tables.now c.loop-table.table-index c.table-item.result c.loop-table.columns c.union-columns.result c.loop-table-test.true c.table-item.is c.loop-table.invariant
    (c.union-columns.ensures ∙ ap (union c.loop-table.columns) c.columns.ensures.value)
