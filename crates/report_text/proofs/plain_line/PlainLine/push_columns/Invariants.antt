use Rattle.report_text.proofs.PlainColumns.{HasColumns}
use Rattle.report_text.proofs.plain_line.PlainLine.push_columns.Given as goal

abbrev pub invariant-loop-column : goal.invariant-loop-column
invariant-loop-column l = HasColumns l.fn.self l.self l.fn.set l.rest

abbrev pub decreases-loop-column : goal.decreases-loop-column
decreases-loop-column l = l.rest
