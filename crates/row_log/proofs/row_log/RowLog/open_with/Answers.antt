use Rattle.row_log.proofs.Opened.{few_cells, coded_rows, if_opened}
use Rattle.row_log.proofs.row_log.RowLog.open_with.Goals as goal

pub columns_of-requires : goal.columns_of-requires
columns_of-requires c = few_cells c.args.relation c.into_columns-names.result.1.items c.into_columns-names.ensures.bounds c.into_columns-names.ensures.wide c.into_columns-names.ensures.cells

pub coded-requires : goal.coded-requires
coded-requires c = (
  c.args.relation.rows,
  coded_rows c.args.relation c.into_columns-names.result.1.items c.into_columns-names.ensures.bounds c.into_columns-names.ensures.wide c.into_columns-names.ensures.cells c.args.nulls c.into_columns-names.result.0 c.len-count.result c.in_ok-columns.columns.items
      c.into_columns-names.ensures.names c.len-count.ensures.value c.in_ok-columns.ensures,
)

pub returns : goal.returns
returns c = if_opened c.coded.result c.args.nulls c.args.limits.rows c.args.relation c.into_columns-names.result.0 c.len-count.result c.in_ok-columns.columns.items c.coded.ensures c.into_columns-names.ensures.names
    (coded_rows c.args.relation c.into_columns-names.result.1.items c.into_columns-names.ensures.bounds c.into_columns-names.ensures.wide c.into_columns-names.ensures.cells c.args.nulls c.into_columns-names.result.0 c.len-count.result c.in_ok-columns.columns.items
    c.into_columns-names.ensures.names c.len-count.ensures.value c.in_ok-columns.ensures)
