use Rattle.std.proofs.Common.{◌≡◌, ◌++◌}
use Rattle.col_set.specs.ColSet.{columns}
use Rattle.report_text.specs.Field.{columns_text}
use Rattle.report_text.proofs.ColumnsText.{columns_tail}
use Rattle.report_text.proofs.field.write_columns.Given as goal

abbrev pub invariant-loop-column : goal.invariant-loop-column
invariant-loop-column l = l.text.items ++ columns_tail (columns l.rest) ≡ columns_text l.fn.set

abbrev pub decreases-loop-column : goal.decreases-loop-column
decreases-loop-column l = l.rest
