use Rattle.col_set.specs.Columns.{report_total}
use Rattle.col_set.proofs.laws.report_order_is_total.Goals as goal

pub returns : goal.returns
returns c = report_total
